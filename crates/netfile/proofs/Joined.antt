-- The places that the arcs join a transition to, kind by kind, and whether some arc does.
use Rattle.std.proofs.Common.{◌≡◌, ℕ, zero, suc, ◌<◌, ◌≤◌, Bool, true, false, cond, ◌&&◌, ◌||◌, eqb, List, refl, ◌∙◌, ap₂, arith}
use lib.Bits.{bit_or}
use Rattle.std.proofs.lemmas.Bool.{ne_eqb}
use Rattle.std.proofs.lemmas.Bool.Decides.{nat_tests}
use Rattle.bitset.specs.Sets.{has, only}
use Rattle.bitset.proofs.Sets.{has_or, has-only, has_none}
use Rattle.nets.specs.Stored.{joined_places}
use Rattle.netfile.specs.Files.{arc_record, arc_of, arc_places, transition_said}
use Rattle.netfile.specs.Rules.{joined_before}

-- one arc more
pub has_arc : (arcs : List ℕ) (t kind i q : ℕ)
    → has (arc_places arcs t kind (suc i)) q ≡ ((arc_of (arc_record arcs i) t kind && eqb q (arc_record arcs i).place) || has (arc_places arcs t kind i) q)
has_arc arcs t kind i q = go (arc_of (arc_record arcs i) t kind)
  where
    go : (b : Bool) → has (cond b (bit_or (arc_places arcs t kind i) (only (arc_record arcs i).place)) (arc_places arcs t kind i)) q
        ≡ ((b && eqb q (arc_record arcs i).place) || has (arc_places arcs t kind i) q)
    go true =
        let o = has_or (arc_places arcs t kind i) (only (arc_record arcs i).place) q in
        let s = has-only (arc_record arcs i).place q in
        grind arith
    go false = refl

pub eqb_comm : (a b : ℕ) → eqb a b ≡ eqb b a
eqb_comm a b = grind (arith, nat_tests)

-- one of the four kinds
kinds : (T P e : Bool) (k : ℕ) (a b c d j : Bool) → k ≤ 3 → e ≡ P → ((a || b) || (c || d)) ≡ j
    → ((((((T && eqb k 0) && e) || a) || (((T && eqb k 1) && e) || b)) || ((((T && eqb k 2) && e) || c) || (((T && eqb k 3) && e) || d))) ≡ ((T && P) || j))
kinds T P e zero a b c d j h s i = grind arith
kinds T P e (suc zero) a b c d j h s i = grind arith
kinds T P e (suc (suc zero)) a b c d j h s i = grind arith
kinds T P e (suc (suc (suc zero))) a b c d j h s i = grind arith
kinds T P e (suc (suc (suc (suc k)))) a b c d j h s i = absurd (omega arith)

-- some set has q exactly where an arc joins t and q
pub sets_joined : (arcs : List ℕ) (t q k : ℕ) → ((i : ℕ) → i < k → (arc_record arcs i).kind ≤ 3)
    → ((has (arc_places arcs t 0 k) q || has (arc_places arcs t 1 k) q) || (has (arc_places arcs t 2 k) q || has (arc_places arcs t 3 k) q)) ≡ joined_before arcs t q k
sets_joined arcs t q zero h = let n = has_none q in grind arith
sets_joined arcs t q (suc i) h =
    rw (has_arc arcs t 0 i q, has_arc arcs t 1 i q, has_arc arcs t 2 i q, has_arc arcs t 3 i q)
    (kinds (eqb (arc_record arcs i).transition t) (eqb (arc_record arcs i).place q) (eqb q (arc_record arcs i).place) (arc_record arcs i).kind
    _ _ _ _ _ (h i (omega arith)) (eqb_comm q (arc_record arcs i).place) (sets_joined arcs t q i (λ j l. h j (omega arith))))

pub said_joined : (arcs terms : List ℕ) (t q j k : ℕ) → ((i : ℕ) → i < j → (arc_record arcs i).kind ≤ 3)
    → has (joined_places (transition_said arcs terms j k t)) q ≡ joined_before arcs t q j
said_joined arcs terms t q j k h =
    has_or (bit_or (arc_places arcs t 0 j) (arc_places arcs t 1 j)) (bit_or (arc_places arcs t 2 j) (arc_places arcs t 3 j)) q
    ∙ ap₂ ◌||◌ (has_or (arc_places arcs t 0 j) (arc_places arcs t 1 j) q) (has_or (arc_places arcs t 2 j) (arc_places arcs t 3 j) q)
    ∙ sets_joined arcs t q j h

-- no arc joins a transition that none is of
pub never_joined : (arcs : List ℕ) (t q k : ℕ) → ((i : ℕ) → i < k → (arc_record arcs i).transition < t) → joined_before arcs t q k ≡ false
never_joined arcs t q zero h = refl
never_joined arcs t q (suc i) h =
    let e = ne_eqb (arc_record arcs i).transition t (λ s. omega (arith, h i (omega arith))) in
    let ih = never_joined arcs t q i (λ j l. h j (omega arith)) in
    grind arith
