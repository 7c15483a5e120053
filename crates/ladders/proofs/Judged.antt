-- The grammar's answer tells whether steps are a ladder, and where they fail to be one.
use Rattle.std.proofs.Common.{rules, ◌≡◌, ℕ, suc, ◌+◌, ◌<◌, ◌≤◌, Bool, true, false, cond, ltb, ◌⊎◌, List, [], ◌∷◌, ◌++◌, length, take, drop, Some, None, Ok, Err, Option, Result, sym, refl, ap, ◌∙◌, subst, inl, inr, add-one, arith}
use Rattle.std.proofs.lemmas.List.{append_assoc, take-append-drop, take-take}
use Rattle.std.proofs.lemmas.Bool.{ltb-true, lt-ltb}
use Rattle.std.proofs.lemmas.Bool.Decides.{nat_tests}
use Rattle.std.proofs.lemmas.Option.{option_and_then_some}
use Rattle.std.specs.Option.{option_and_then}
use Rattle.ladders.specs.declared.grammar.Fault.{Fault}
use Rattle.ladders.specs.declared.grammar.Position.{Position}
use Rattle.ladders.specs.declared.grammar.Position.TheVariants.{First, Series, Group, Groups}
use Rattle.ladders.specs.declared.step.Step.{Step}
use Rattle.ladders.specs.Grammar.{next, next_at, fault, ended, onward, from, grammar}
use Rattle.ladders.specs.Ladders.{Whole, IsLadder, Begun, FailsAt, GrammarTells}
use Rattle.ladders.proofs.Named.{chosen, went_on}
use Rattle.ladders.proofs.Parsed.{reached_whole}
use Rattle.ladders.proofs.Walks.{reach, reach_append, ending, ending_reaches}
use Rattle.ladders.proofs.Written.{whole_reaches}

ended_ok : (p : Position) (i : ℕ) → ended p i ≡ Ok tt → p ≡ First
ended_ok p i e = search rules

ok_reaches : (ss : List Step) (p : Position) (i : ℕ) → from p i ss ≡ Ok tt → reach p ss ≡ Some First
ok_reaches [] p i e = ap Some (ended_ok p i e)
ok_reaches (s ∷ ss) p i e =
    let w = went_on (next_at i p s) i (λ q. from q (i + 1) ss) e in
    let stood = chosen (ltb i 2048) (next p s) w.0 w.1.0 in
    rw stood.1 (ok_reaches ss w.0 (i + 1) w.1.1)

ok_short : (ss : List Step) (p : Position) (i : ℕ) → from p i ss ≡ Ok tt → i ≤ 2048 → i + length ss ≤ 2048
ok_short [] p i e h = omega arith
ok_short (s ∷ ss) p i e h =
    let w = went_on (next_at i p s) i (λ q. from q (i + 1) ss) e in
    let less = ltb-true i 2048 (chosen (ltb i 2048) (next p s) w.0 w.1.0).0 in
    let rest = ok_short ss w.0 (i + 1) w.1.1 (omega arith) in
    omega arith

reaches_ok : (ss : List Step) (p : Position) (i : ℕ) → reach p ss ≡ Some First → i + length ss ≤ 2048 → from p i ss ≡ Ok tt
reaches_ok [] p i e h = let at : p ≡ First = cc in rw at refl
reaches_ok (s ∷ ss) p i e h =
    option_and_then_some (λ q. reach q ss) (next p s) First e (λ q at on.
    let less : ltb i 2048 ≡ true = lt-ltb i 2048 (omega arith) in
    let stood : next_at i p s ≡ Some q = rw less at in
    ap (λ (o : Option Position). onward o i (λ v. from v (i + 1) ss)) stood ∙ reaches_ok ss q (i + 1) on (omega arith))

-- the steps fail after j of them, the first of which stands at p and has the index i
record Failed (p : Position) (i : ℕ) (ss : List Step) (j : ℕ) : Type 0 where
  within : j ≤ length ss
  few : i ≤ 2048 → i + j ≤ 2048
  at : Position
  before : reach p (take j ss) ≡ Some at
  here : ((j ≡ length ss) × (reach p ss ≡ Some First → ⊥)) ⊎ ((j < length ss) × ((2048 ≤ i + j) ⊎ (reach p (take (suc j) ss) ≡ None)))

abbrev FailedFrom : Position → ℕ → List Step → ℕ → Type 0
FailedFrom p i ss k = (j : ℕ) × (k ≡ i + j) × Failed p i ss j

-- the same fault is at the same index
same_index : (i k : ℕ) → ◌≡◌ {A = Result (Unit {0}) Fault} (Err (fault i)) (Err (fault k)) → i ≡ k
same_index i k e = let same : fault i ≡ fault k = cc in ap (λ (f : Fault). f.index) same

-- steps that end in mid-rung
cut_off : (p : Position) (i k : ℕ) → (p ≡ First → ⊥) → ◌≡◌ {A = Result (Unit {0}) Fault} (Err (fault i)) (Err (fault k)) → FailedFrom p i [] k
cut_off p i k mid e =
    let same = same_index i k e in
    (0, omega arith, record { within = omega arith; few = λ h. omega arith; at = p; before = refl; here = inl (refl, λ d. mid (cc)) })

failed_none : (p : Position) (i k : ℕ) → ended p i ≡ Err (fault k) → FailedFrom p i [] k
failed_none First i k e = cc
failed_none Series i k e = cut_off Series i k (λ d. cc) e
failed_none Group i k e = cut_off Group i k (λ d. cc) e
failed_none Groups i k e = cut_off Groups i k (λ d. cc) e

-- a step that cannot stand: the 2,049th, or one that is out of place
stopped : (b : Bool) (i : ℕ) (o : Option Position) → ltb i 2048 ≡ b → cond b o None ≡ None → (2048 ≤ i) ⊎ (o ≡ None)
stopped true i o t e = inr e
stopped false i o t e = inl (grind (arith, nat_tests))

fails_here : (p : Position) (i k : ℕ) (s : Step) (ss : List Step) → next_at i p s ≡ None → i ≡ k → FailedFrom p i (s ∷ ss) k
fails_here p i k s ss e same =
    let why = stopped (ltb i 2048) i (next p s) refl e in (
      0,
      omega arith,
      record {
        within = omega arith;
        few = λ h. omega arith;
        at = p;
        before = refl;
        here = inr (omega arith, elim why [ inl most ↦ inl (omega arith) | inr none ↦ inr (ap (option_and_then (λ q. reach q (take 0 ss))) none) ]);
      },
    )

-- a step that stands, and steps that fail after it
fails_later : (p q : Position) (i k : ℕ) (s : Step) (ss : List Step) → next_at i p s ≡ Some q → FailedFrom q (i + 1) ss k → FailedFrom p i (s ∷ ss) k
fails_later p q i k s ss e (j, same, f) =
    let stood = chosen (ltb i 2048) (next p s) q e in
    let less = ltb-true i 2048 stood.0 in
    let on : (ts : List Step) → reach p (s ∷ ts) ≡ reach q ts = λ ts. ap (option_and_then (λ v. reach v ts)) stood.1 in
    let short = f.few (omega arith) in (
      suc j,
      omega arith,
      record {
        within = (let w = f.within in omega arith);
        few = λ h. omega arith;
        at = f.at;
        before = on (take j ss) ∙ f.before;
        here = elim f.here [
          | inl w ↦ inl (ap suc w.0, λ d. w.1 (sym (on ss) ∙ d))
          | inr w ↦ inr (let l = w.0 in omega arith, elim w.1 [ inl most ↦ inl (omega arith) | inr none ↦ inr (on (take (suc j) ss) ∙ none) ])
        ];
      },
    )

fails_one_way : (p : Position) (i k : ℕ) (s : Step) (ss : List Step) (o : Option Position) → next_at i p s ≡ o
    → onward o i (λ q. from q (i + 1) ss) ≡ Err (fault k)
    → ((q : Position) → from q (i + 1) ss ≡ Err (fault k) → FailedFrom q (i + 1) ss k)
    → FailedFrom p i (s ∷ ss) k
fails_one_way p i k s ss None t e ih = fails_here p i k s ss t (same_index i k e)
fails_one_way p i k s ss (Some q) t e ih = fails_later p q i k s ss t (ih q e)

failed : (ss : List Step) (p : Position) (i k : ℕ) → from p i ss ≡ Err (fault k) → FailedFrom p i ss k
failed [] p i k e = failed_none p i k e
failed (s ∷ ss) p i k e = fails_one_way p i k s ss (next_at i p s) refl e (λ q. failed ss q (i + 1) k)

-- whole rungs begin with steps that all stand
begun : (ss : List Step) (q : Position) → reach First ss ≡ Some q → Begun ss
begun ss q e =
    (ending q, reached_whole (ss ++ ending q) (reach_append ss (ending q) First ∙ ap (option_and_then (λ v. reach v (ending q))) e ∙ ending_reaches q))

-- and with no others
not_begun : (ss : List Step) → reach First ss ≡ None → Begun ss → ⊥
not_begun ss e (rest, w) =
    let both : None ≡ Some First = sym (ap (option_and_then (λ v. reach v rest)) e) ∙ sym (reach_append ss rest First) ∙ whole_reaches (ss ++ rest) w in cc

accepted : (ss : List Step) → grammar ss ≡ Ok tt → IsLadder ss
accepted ss e = (reached_whole ss (ok_reaches ss First 0 e), (let l = ok_short ss First 0 e (omega arith) in omega arith))

each_accepted : (ss : List Step) → IsLadder ss → grammar ss ≡ Ok tt
each_accepted ss (w, short) = reaches_ok ss First 0 (whole_reaches ss w) (omega arith)

refused : (ss : List Step) (i : ℕ) → grammar ss ≡ Err (fault i) → FailsAt ss i
refused ss i e = told (failed ss First 0 i e)
  where
    told : FailedFrom First 0 ss i → FailsAt ss i
    told (j, same, f) =
        let at : j ≡ i = omega arith in
        subst (λ (v : ℕ). FailsAt ss v) at
        (let few = f.few (omega arith) in
        record {
          in_range = (f.within, omega arith);
          not_before = begun (take j ss) f.at f.before;
          here = elim f.here [
            | inl w ↦ inl (w.0, λ v. w.1 (whole_reaches ss v))
            | inr w ↦ inr (w.0, elim w.1 [ inl most ↦ inl (omega arith) | inr none ↦ inr (rw add-one (not_begun (take (suc j) ss) none)) ])
          ];
        })

-- steps begin whole rungs if more of them do
begun_fewer : (ss : List Step) (i j : ℕ) → i ≤ j → Begun (take j ss) → Begun (take i ss)
begun_fewer ss i j h (rest, w) =
    let split : take i ss ++ drop i (take j ss) ≡ take j ss =
    ap (λ (v : List Step). v ++ drop i (take j ss)) (sym (take-take i j ss h)) ∙ take-append-drop i (take j ss) in
    let same : take j ss ++ rest ≡ take i ss ++ (drop i (take j ss) ++ rest) =
    ap (λ (v : List Step). v ++ rest) (sym split) ∙ append_assoc (take i ss) (drop i (take j ss)) rest in
    (drop i (take j ss) ++ rest, subst Whole same w)

-- the steps of a ladder fail nowhere
no_failure : (ss : List Step) (i : ℕ) → IsLadder ss → FailsAt ss i → ⊥
no_failure ss i (w, short) f = elim f.here [
  | inl v ↦ v.1 w
  | inr v ↦ elim v.1 [
    | inl most ↦ (let l = v.0 in omega arith)
    | inr none ↦ none (drop (i + 1) ss, subst Whole (sym (take-append-drop (i + 1) ss)) w)
  ]
]

-- the steps do not fail at two indices
not_twice : (ss : List Step) (i j : ℕ) → FailsAt ss i → FailsAt ss j → i < j → ⊥
not_twice ss i j f g h =
    let range = g.in_range in
    elim f.here [
      | inl v ↦ (let l = v.0 in omega arith)
      | inr v ↦ elim v.1 [ inl most ↦ omega arith | inr none ↦ none (begun_fewer ss (i + 1) j (omega arith) g.not_before) ]
    ]

each_refused : (ss : List Step) (i : ℕ) → FailsAt ss i → grammar ss ≡ Err (fault i)
each_refused ss i f = told (grammar ss) refl
  where
    told : (r : Result (Unit {0}) Fault) → grammar ss ≡ r → grammar ss ≡ Err (fault i)
    told (Ok tt) e = absurd (no_failure ss i (accepted ss e) f)
    told (Err f') e =
        let j = f'.index in
        let g = refused ss j e in
        let not_below = not_twice ss j i g f in
        let not_above = not_twice ss i j f g in
        let same : j ≡ i = omega arith in
        e ∙ ap (λ (v : ℕ). Err (fault v)) same

-- the grammar's answer tells whether the steps are a ladder, and where they fail
pub grammar_tells : GrammarTells
grammar_tells ss = record { accepted = accepted ss; each_accepted = each_accepted ss; refused = refused ss; each_refused = each_refused ss }
