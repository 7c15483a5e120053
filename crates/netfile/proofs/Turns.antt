-- One turn of a loop that puts records into a net, up to the first that breaks a rule.
use Rattle.std.proofs.Common.{◌≡◌, ℕ, zero, suc, ◌+◌, ◌*◌, ◌<◌, List, [], get_or, take, drop, Some, None, sym, ap, ◌∙◌, add-one, arith, drop-drop}
use Rattle.std.proofs.Math.Nat.{mul-suc}
use Rattle.std.specs.Simd.{first_chunks}
use Rattle.netfile.specs.Files.{record_bytes}
use Rattle.nets.specs.Nets.{Net}
use Rattle.bitset.specs.Lists.{first_of}
use Rattle.netlayout.specs.declared.refusal.Refusal.{Refusal}
use Rattle.netfile.specs.Steps.{put_below, wrong_below}
use Rattle.netfile.proofs.Lists.{none_more, first_at}

-- the bytes of record i, as a slice cut into arrays has them
chunk_at : (size k : ℕ) (bs : List ℕ) (i : ℕ) (d : List ℕ) → i < k → get_or (first_chunks size k bs) i d ≡ record_bytes size bs i
chunk_at size (suc k) bs zero d h = let z : 0 ≡ size * 0 = omega arith in ap (λ (m : ℕ). take size (drop m bs)) z
chunk_at size (suc k) bs (suc i) d h =
    chunk_at size k (drop size bs) i d (omega arith)
    ∙ ap (take size) (drop-drop (size * i) size bs)
    ∙ ap (λ (m : ℕ). take size (drop m bs)) (let e = mul-suc size i in omega arith)
chunk_at size zero bs i d h = absurd (omega arith)

-- the array that is read as element i
pub read_at : (size k : ℕ) (bs : List ℕ) (all : List (List ℕ)) (i : ℕ) (x : List ℕ) → all ≡ first_chunks size k bs → i < k → x ≡ get_or all i x → x ≡ record_bytes size bs i
read_at size k bs all i x e h is = is ∙ ap (λ xs. get_or xs i x) e ∙ chunk_at size k bs i x h

-- the net so far, and nothing wrong so far
abbrev pub Well : (Net → ℕ → Net) → (Net → ℕ → List Refusal) → Net → ℕ → Net → Type 0
Well put wrong n i m = (m ≡ put_below put n i) × (wrong_below put wrong n i ≡ [])

module _ (put : Net → ℕ → Net) (wrong : Net → ℕ → List Refusal) (n : Net) (i : ℕ) (was : Net) (well : Well put wrong n i was) where
  pub turn_on : (is : Net) → None ≡ first_of (wrong was i) → is ≡ put was i → Well put wrong n (i + 1) is
  turn_on is right e = (
    rw add-one (e ∙ ap (λ m. put m i) well.0),
    none_more (λ j. wrong (put_below put n j) j) i well.1 (ap (λ m. first_of (wrong m i)) (sym well.0) ∙ sym right),
  )

  pub turn_out : (k : ℕ) (r : Refusal) → i < k → Some r ≡ first_of (wrong was i) → Some r ≡ first_of (wrong_below put wrong n k)
  turn_out k r h e =
      sym (first_at (λ j. wrong (put_below put n j) j) i k r h well.1 (ap (λ m. first_of (wrong m i)) (sym well.0) ∙ sym e))
