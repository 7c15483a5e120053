-- What stands first in the way of a transition.
use Rattle.std.proofs.Common.{◌≡◌, ℕ, ◌<◌, ◌≤◌, Bool, true, false, not, ◌&&◌, ◌||◌, eqb, ltb, leb, List, [], ◌∷◌, ◌++◌, map, length, is_some, Some, None, Option, sym, refl, ap, ◌∙◌, ap₂, ⊎_elim, arith}
use mathlib.Core.Bool.{false≢true}
use lib.Bits.{bit_and}
use Rattle.std.proofs.lemmas.Bool.{le-leb, lt-leb, lt-ltb, le-ltb, ltb-true, eq-eqb, ne_eqb, and_parts, and_from, cases_Bool, cases_lt}
use Rattle.bitset.specs.Lists.{first_of, none_in}
use Rattle.bitset.specs.Room.{room, lowest_in}
use Rattle.bitset.specs.Sets.{has, within, apart, without, below, members}
use Rattle.bitset.proofs.Lists.{first_joined, first_past}
use Rattle.bitset.proofs.Sets.{has_or, has_and, has-without, has_none, same_word, within_each, within_from, apart_each, apart_from, first_lowest}
use Rattle.nets.specs.Firing.{condition, needs, forbids, enabled, hindering, can_fire}
use Rattle.nets.specs.Nets.{Net, at, Transition}
use Rattle.tokengame.specs.declared.game_refusal.GameRefusal.{GameRefusal}
use Rattle.tokengame.specs.declared.game_refusal.GameRefusal.TheVariants.{UnknownPlace, UnknownTransition, NotEnabled, ConditionFails}
use Rattle.tokengame.specs.Games.{where_so, each_hindering, obstacles, GameLaws}
use Rattle.tokengame.proofs.Conditions.{condition_cut}

-- the refusal for the place that hinders first
abbrev pub place_refusal : Option ℕ → Option GameRefusal
place_refusal None = None
place_refusal (Some p) = Some (NotEnabled p)

first_mapped : (ps : List ℕ) → first_of (map NotEnabled ps) ≡ place_refusal (first_of ps)
first_mapped [] = refl
first_mapped (p ∷ ps) = refl

pub first_hindering : (h : ℕ) → first_of (each_hindering h) ≡ place_refusal (lowest_in h)
unfolding lowest_in each_hindering
first_hindering h = first_mapped (members h room)

pub unknown_place : (n : Net) (m w t : ℕ) → within m (below n.places) ≡ false → first_of (obstacles n m w t) ≡ Some UnknownPlace
unknown_place n m w t e =
    ap (λ (a : Bool). first_of (where_so (not a) UnknownPlace ++ (where_so (leb (length n.transitions) t) UnknownTransition
    ++ (each_hindering (hindering m (at n t)) ++ where_so (not (condition w (at n t).terms)) ConditionFails)))) e

module _ (n : Net) (m w t : ℕ) (places : within m (below n.places) ≡ true) where
  pub unknown_transition : length n.transitions ≤ t → first_of (obstacles n m w t) ≡ Some UnknownTransition
  unknown_transition h =
      ap₂ (λ (a b : Bool). first_of (where_so (not a) UnknownPlace ++ (where_so b UnknownTransition
      ++ (each_hindering (hindering m (at n t)) ++ where_so (not (condition w (at n t).terms)) ConditionFails))))
      places (le-leb (length n.transitions) t h)

  -- what is left to look at
  known : t < length n.transitions
      → first_of (obstacles n m w t) ≡ first_of (each_hindering (hindering m (at n t)) ++ where_so (not (condition w (at n t).terms)) ConditionFails)
  known h =
      ap₂ (λ (a b : Bool). first_of (where_so (not a) UnknownPlace ++ (where_so b UnknownTransition
      ++ (each_hindering (hindering m (at n t)) ++ where_so (not (condition w (at n t).terms)) ConditionFails))))
      places (lt-leb (length n.transitions) t h)

  pub not_enabled : t < length n.transitions → (p : ℕ) → lowest_in (hindering m (at n t)) ≡ Some p → first_of (obstacles n m w t) ≡ Some (NotEnabled p)
  not_enabled h p e = known h ∙ first_joined _ _ _ (first_hindering (hindering m (at n t)) ∙ ap place_refusal e)

  pub condition_told : t < length n.transitions → lowest_in (hindering m (at n t)) ≡ None → (b : Bool) → b ≡ condition w (at n t).terms
      → first_of (obstacles n m w t) ≡ first_of (where_so (not b) ConditionFails)
  condition_told h e b f =
      known h ∙ first_past _ _ (first_hindering (hindering m (at n t)) ∙ ap place_refusal e) ∙ ap (λ x. first_of (where_so (not x) ConditionFails)) (sym f)

-- THE LAWS OF THE GAME

-- no place hinders exactly where the transition is enabled
pub none_hinders : (m : ℕ) (t : Transition) → eqb (hindering m t) 0 ≡ enabled m t
none_hinders m t = ⊎_elim yes_enabled not_so (cases_Bool (enabled m t))
  where
    at_place : (p : ℕ) → has (hindering m t) p ≡ ((has (needs t) p && not (has m p)) || (has (forbids t) p && has m p))
    at_place p = has_or (without (needs t) m) (bit_and (forbids t) m) p ∙ ap₂ ◌||◌ (has-without (needs t) m p) (has_and (forbids t) m p)

    yes_enabled : enabled m t ≡ true → eqb (hindering m t) 0 ≡ enabled m t
    yes_enabled e =
        let h = and_parts (within (needs t) m) (apart (forbids t) m) e in
        eq-eqb (hindering m t) 0 (same_word (hindering m t) 0 (λ p.
        let a = within_each (needs t) m h.0 p in
        let b = apart_each (forbids t) m h.1 p in
        let z = has_none p in
        at_place p ∙ grind arith)) ∙ sym e

    not_so : enabled m t ≡ false → eqb (hindering m t) 0 ≡ enabled m t
    not_so e = ne_eqb (hindering m t) 0 (λ z.
        let free : (p : ℕ) → ((has (needs t) p && not (has m p)) || (has (forbids t) p && has m p)) ≡ false = λ p. sym (at_place p) ∙ ap (λ (x : ℕ). has x p) z ∙ has_none p in
        let a = within_from (needs t) m (λ p h. let f = free p in grind arith) in
        let b = apart_from (forbids t) m (λ p h. let f = free p in grind arith) in
        false≢true (sym e ∙ and_from (within (needs t) m) (apart (forbids t) m) a b)) ∙ sym e

-- whether something stands in the way, by what comes first
pub stopped : {X : Type 0} (l : List X) (o : Option X) → o ≡ first_of l → not (is_some o) ≡ none_in l
stopped l o e = ap (λ x. not (is_some x)) e ∙ go l
  where
    go : {X : Type 0} (l : List X) → not (is_some (first_of l)) ≡ none_in l
    go [] = refl
    go (x ∷ xs) = refl

twice : (b : Bool) → not (not b) ≡ b
twice true = refl
twice false = refl

none_mapped : (ps : List ℕ) → none_in (map NotEnabled ps) ≡ none_in ps
none_mapped [] = refl
none_mapped (p ∷ ps) = refl

none_first_of : (ps : List ℕ) → none_in ps ≡ not (is_some (first_of ps))
none_first_of [] = refl
none_first_of (p ∷ ps) = refl

-- none is listed exactly where there is none
abbrev pub Listed : ℕ → Type 0
Listed h = none_in (each_hindering h) ≡ eqb h 0

pub listed : (h : ℕ) (o : Option ℕ) → o ≡ lowest_in h → is_some o ≡ not (eqb h 0) → Listed h
unfolding each_hindering lowest_in
listed h o e f = none_mapped (members h room) ∙ none_first_of (members h room) ∙ ap (λ x. not (is_some x)) (sym e) ∙ ap not f ∙ twice (eqb h 0)

none_joined : {X : Type 0} (xs ys : List X) → none_in (xs ++ ys) ≡ (none_in xs && none_in ys)
none_joined [] ys = refl
none_joined (x ∷ xs) ys = refl

-- the place that a refusal tells
abbrev place_of : Option GameRefusal → Option ℕ
place_of None = None
place_of (Some UnknownPlace) = None
place_of (Some UnknownTransition) = None
place_of (Some (NotEnabled p)) = Some p
place_of (Some ConditionFails) = None

no_place : (b : Bool) → place_of (first_of (where_so b ConditionFails)) ≡ None
no_place true = refl
no_place false = refl

lowest_told : (h p : ℕ) (b : Bool) (o : Option ℕ) → lowest_in h ≡ o
    → first_of (each_hindering h ++ where_so b ConditionFails) ≡ Some (NotEnabled p) → o ≡ Some p
lowest_told h p b None e f =
    let told = sym (no_place b) ∙ ap place_of (sym (first_past (each_hindering h) (where_so b ConditionFails) (first_hindering h ∙ ap place_refusal e)) ∙ f) in cc
lowest_told h p b (Some q) e f =
    ap place_of (sym (first_joined (each_hindering h) (where_so b ConditionFails) (NotEnabled q) (first_hindering h ∙ ap place_refusal e)) ∙ f)

lowest_is : (h p : ℕ) → lowest_in h ≡ Some p → (has h p ≡ true) × ((q : ℕ) → q < p → has h q ≡ false)
unfolding lowest_in
lowest_is h p e = first_lowest h room p e

where_none : (b : Bool) (r : GameRefusal) → none_in (where_so b r) ≡ not b
where_none true r = refl
where_none false r = refl

module _ (n : Net) (m w t : ℕ) where
  -- whether there is such a transition
  there : not (leb (length n.transitions) t) ≡ ltb t (length n.transitions)
  there = ⊎_elim
      (λ l. ap not (lt-leb (length n.transitions) t l) ∙ sym (lt-ltb t (length n.transitions) l))
      (λ l. ap not (le-leb (length n.transitions) t l) ∙ sym (le-ltb t (length n.transitions) l))
      (cases_lt t (length n.transitions))

  all_granted : (within m (below n.places) ≡ true → t < length n.transitions → Listed (hindering m (at n t)))
      → none_in (obstacles n m w t) ≡ (within m (below n.places) && (ltb t (length n.transitions) && can_fire m w (at n t)))
  all_granted f =
      let a = within m (below n.places) in
      let b = leb (length n.transitions) t in
      let h = hindering m (at n t) in
      let d = condition w (at n t).terms in
      let x = where_none (not a) UnknownPlace in
      let y = where_none b UnknownTransition in
      let v = where_none (not d) ConditionFails in
      none_joined (where_so (not a) UnknownPlace) (where_so b UnknownTransition ++ (each_hindering h ++ where_so (not d) ConditionFails))
      ∙ ap₂ ◌&&◌ (x ∙ twice a)
      (none_joined (where_so b UnknownTransition) (each_hindering h ++ where_so (not d) ConditionFails)
      ∙ ap₂ ◌&&◌ (y ∙ there) (none_joined (each_hindering h) (where_so (not d) ConditionFails) ∙ ap (λ k. none_in (each_hindering h) && k) (v ∙ twice d)))
      ∙ both a (ltb t (length n.transitions)) (none_in (each_hindering h)) (enabled m (at n t)) d
      (λ e k. f e (ltb-true t (length n.transitions) k) ∙ none_hinders m (at n t))
    where
      both : (a b c c' d : Bool) → (a ≡ true → b ≡ true → c ≡ c') → (a && (b && (c && d))) ≡ (a && (b && (c' && d)))
      both false b c c' d f = refl
      both true false c c' d f = refl
      both true true c c' d f = ap (λ k. k && d) (f refl refl)

  lowest_place : (p : ℕ) → first_of (obstacles n m w t) ≡ Some (NotEnabled p)
      → (has (hindering m (at n t)) p ≡ true) × ((q : ℕ) → q < p → has (hindering m (at n t)) q ≡ false)
  lowest_place p e = ⊎_elim known_places unknown_places (cases_Bool (within m (below n.places)))
    where
      unknown_places : within m (below n.places) ≡ false → (has (hindering m (at n t)) p ≡ true) × ((q : ℕ) → q < p → has (hindering m (at n t)) q ≡ false)
      unknown_places f = let told = ap place_of (sym (unknown_place n m w t f) ∙ e) in cc

      known_places : within m (below n.places) ≡ true → (has (hindering m (at n t)) p ≡ true) × ((q : ℕ) → q < p → has (hindering m (at n t)) q ≡ false)
      known_places f = ⊎_elim
          (λ l. lowest_is (hindering m (at n t)) p (lowest_told (hindering m (at n t)) p (not (condition w (at n t).terms)) (lowest_in (hindering m (at n t))) refl (sym (known n m w t f l) ∙ e)))
          (λ l. let told = ap place_of (sym (unknown_transition n m w t f l) ∙ e) in cc)
          (cases_lt t (length n.transitions))

  pub game_laws : (within m (below n.places) ≡ true → t < length n.transitions → Listed (hindering m (at n t))) → GameLaws n m w t
  game_laws l = record {
    granted = all_granted l;
    lowest = lowest_place;
    lines_ignored = λ f. ap (λ b. where_so (not (within m (below n.places))) UnknownPlace
        ++ (where_so (leb (length n.transitions) t) UnknownTransition ++ (each_hindering (hindering m (at n t)) ++ where_so (not b) ConditionFails)))
        (condition_cut n f w t);
  }
