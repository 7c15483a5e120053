-- One firing, place by place, and two firings that do not conflict.
use Rattle.std.proofs.Common.{◌≡◌, ℕ, ◌+◌, Bool, true, false, not, ◌&&◌, ◌||◌, ◌⊎◌, sym, refl, ap, ◌∙◌, inl, inr, ⊎_elim, arith}
use lib.Bits.{bit_or}
use Rattle.std.proofs.lemmas.Bool.{and_parts, and_from}
use Rattle.bitset.specs.Sets.{has, within, apart, without, tell}
use Rattle.nets.specs.Nets.{Transition}
use Rattle.nets.specs.Firing.{enabled, can_fire, condition, fire, conflict}
use Rattle.bitset.proofs.Sets.{has_or, has-without, within_each, within_from, apart_each, apart_from, apart_comm}

-- what it is to be enabled, place by place
pub record Ready (m : ℕ) (t : Transition) : Type 0 where
  pub consumes : (p : ℕ) → has t.consumes p ≡ true → has m p ≡ true
  pub tests : (p : ℕ) → has t.tests p ≡ true → has m p ≡ true
  pub produces : (p : ℕ) → has t.produces p ≡ true → has m p ≡ false
  pub inhibits : (p : ℕ) → has t.inhibits p ≡ true → has m p ≡ false

or_l : (a b p : ℕ) → has a p ≡ true → has (bit_or a b) p ≡ true
or_l a b p h = has_or a b p ∙ grind arith

or_r : (a b p : ℕ) → has b p ≡ true → has (bit_or a b) p ≡ true
or_r a b p h = has_or a b p ∙ grind arith

or_cases : (a b p : ℕ) → has (bit_or a b) p ≡ true → (has a p ≡ true) ⊎ (has b p ≡ true)
or_cases a b p h = bits (has a p) (has b p) (sym (has_or a b p) ∙ h)
  where
    bits : (x y : Bool) → (x || y) ≡ true → (x ≡ true) ⊎ (y ≡ true)
    bits true y e = inl refl
    bits false y e = inr e

pub ready : (m : ℕ) (t : Transition) → enabled m t ≡ true → Ready m t
ready m t e =
    let h = and_parts (within (bit_or t.consumes t.tests) m) (apart (bit_or t.produces t.inhibits) m) e in
    record {
      consumes = λ p k. within_each (bit_or t.consumes t.tests) m h.0 p (or_l t.consumes t.tests p k);
      tests = λ p k. within_each (bit_or t.consumes t.tests) m h.0 p (or_r t.consumes t.tests p k);
      produces = λ p k. apart_each (bit_or t.produces t.inhibits) m h.1 p (or_l t.produces t.inhibits p k);
      inhibits = λ p k. apart_each (bit_or t.produces t.inhibits) m h.1 p (or_r t.produces t.inhibits p k);
    }

pub enabled_from : (m : ℕ) (t : Transition) → Ready m t → enabled m t ≡ true
enabled_from m t r = and_from (within (bit_or t.consumes t.tests) m) (apart (bit_or t.produces t.inhibits) m)
    (within_from (bit_or t.consumes t.tests) m (λ p h. ⊎_elim (r.consumes p) (r.tests p) (or_cases t.consumes t.tests p h)))
    (apart_from (bit_or t.produces t.inhibits) m (λ p h. ⊎_elim (r.produces p) (r.inhibits p) (or_cases t.produces t.inhibits p h)))

-- what it is not to conflict, place by place
pub record Free (t u : Transition) : Type 0 where
  pub consumes_consumes : (p : ℕ) → has t.consumes p ≡ true → has u.consumes p ≡ false
  pub produces_produces : (p : ℕ) → has t.produces p ≡ true → has u.produces p ≡ false
  pub consumes_tests : (p : ℕ) → has t.consumes p ≡ true → has u.tests p ≡ false
  pub tests_consumes : (p : ℕ) → has t.tests p ≡ true → has u.consumes p ≡ false
  pub produces_inhibits : (p : ℕ) → has t.produces p ≡ true → has u.inhibits p ≡ false
  pub inhibits_produces : (p : ℕ) → has t.inhibits p ≡ true → has u.produces p ≡ false

six : (a b c d e f : Bool) → (not a || not b || not c || not d || not e || not f) ≡ false
    → (a ≡ true) × (b ≡ true) × (c ≡ true) × (d ≡ true) × (e ≡ true) × (f ≡ true)
six a b c d e f h = grind arith

pub free : (t u : Transition) → conflict t u ≡ false → Free t u
free t u e =
    let h = six (apart t.consumes u.consumes) (apart t.produces u.produces) (apart t.consumes u.tests) (apart t.tests u.consumes) (apart t.produces u.inhibits) (apart t.inhibits u.produces) e in
    record {
      consumes_consumes = apart_each t.consumes u.consumes h.0;
      produces_produces = apart_each t.produces u.produces h.1;
      consumes_tests = apart_each t.consumes u.tests h.2;
      tests_consumes = apart_each t.tests u.consumes h.3;
      produces_inhibits = apart_each t.produces u.inhibits h.4;
      inhibits_produces = apart_each t.inhibits u.produces h.5;
    }

pub conflict_from : (t u : Transition) → Free t u → conflict t u ≡ false
conflict_from t u k =
    let a = apart_from t.consumes u.consumes k.consumes_consumes in
    let b = apart_from t.produces u.produces k.produces_produces in
    let c = apart_from t.consumes u.tests k.consumes_tests in
    let d = apart_from t.tests u.consumes k.tests_consumes in
    let e = apart_from t.produces u.inhibits k.produces_inhibits in
    let f = apart_from t.inhibits u.produces k.inhibits_produces in
    grind arith

pub conflict_comm : (t u : Transition) → conflict t u ≡ conflict u t
conflict_comm t u =
    let a = apart_comm t.consumes u.consumes in
    let b = apart_comm t.produces u.produces in
    let c = apart_comm t.consumes u.tests in
    let d = apart_comm t.tests u.consumes in
    let e = apart_comm t.produces u.inhibits in
    let f = apart_comm t.inhibits u.produces in
    grind arith

-- ONE FIRING

pub has-fire : (m : ℕ) (t : Transition) (p : ℕ) → has (fire m t) p ≡ ((has m p && not (has t.consumes p)) || has t.produces p)
has-fire m t p = has_or (without m t.consumes) t.produces p ∙ ap (λ x. x || has t.produces p) (has-without m t.consumes p)

-- the tokens of a place: those before, less what it consumes, and what it produces
pub tokens : (m : ℕ) (t : Transition) (p : ℕ) → enabled m t ≡ true
    → tell (has (fire m t) p) + tell (has t.consumes p) ≡ tell (has m p) + tell (has t.produces p)
tokens m t p e =
    let r = ready m t e in
    ap (λ b. tell b + tell (has t.consumes p)) (has-fire m t p)
    ∙ bits (has m p) (has t.consumes p) (has t.produces p) (r.consumes p) (r.produces p)
  where
    bits : (x a g : Bool) → (a ≡ true → x ≡ true) → (g ≡ true → x ≡ false) → tell ((x && not a) || g) + tell a ≡ tell x + tell g
    bits x a g h k = grind arith

-- TWO FIRINGS

-- a marked place stays so unless t consumes it, and an unmarked one unless t produces it
stays_marked : (m : ℕ) (t : Transition) (p : ℕ) → has m p ≡ true → has t.consumes p ≡ false → has (fire m t) p ≡ true
stays_marked m t p e f = has-fire m t p ∙ grind arith

stays_bare : (m : ℕ) (t : Transition) (p : ℕ) → has m p ≡ false → has t.produces p ≡ false → has (fire m t) p ≡ false
stays_bare m t p e f = has-fire m t p ∙ grind arith

pub turn : {x y : Bool} → (x ≡ true → y ≡ false) → y ≡ true → x ≡ false
turn {x} {y} f h = grind arith

pub still_enabled : (m : ℕ) (t u : Transition) → enabled m u ≡ true → conflict t u ≡ false → enabled (fire m t) u ≡ true
still_enabled m t u f c =
    let s = ready m u f in
    let k = free t u c in
    enabled_from (fire m t) u record {
      consumes = λ p h. stays_marked m t p (s.consumes p h) (turn (k.consumes_consumes p) h);
      tests = λ p h. stays_marked m t p (s.tests p h) (turn (k.consumes_tests p) h);
      produces = λ p h. stays_bare m t p (s.produces p h) (turn (k.produces_produces p) h);
      inhibits = λ p h. stays_bare m t p (s.inhibits p h) (turn (k.produces_inhibits p) h);
    }

-- each still can fire after the other
pub still_fires : (m w : ℕ) (t u : Transition) → can_fire m w u ≡ true → conflict t u ≡ false → can_fire (fire m t) w u ≡ true
still_fires m w t u f c =
    let h = and_parts (enabled m u) (condition w u.terms) f in
    and_from (enabled (fire m t) u) (condition w u.terms) (still_enabled m t u h.0 c) h.1
