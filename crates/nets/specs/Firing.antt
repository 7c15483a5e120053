-- When a transition can fire, what firing it does, and which transitions conflict. A marking is the set of the marked places, a line word that of the lines that are high.
use Rattle.std.specs.Prelude.{◌≡◌, ℕ, Bool, true, false, not, ◌&&◌, ◌||◌, ◌↔◌, List, bit_and, bit_or}
use Rattle.std.specs.List.{list_any}
use Rattle.bitset.specs.Sets.{within, apart, without}
use Rattle.nets.specs.declared.term.Term.{Term}
use Rattle.nets.specs.Nets.{Transition}

-- a term holds when each line of its high word is high and each of its low word low
abbrev pub term_holds : ℕ → Term → Bool
term_holds w c = within c.high w && apart c.low w

-- a condition holds when one of its terms does
abbrev pub condition : ℕ → List Term → Bool
condition w cs = list_any (term_holds w) cs

-- the places that have to be marked where t fires
abbrev pub needs : Transition → ℕ
needs t = bit_or t.consumes t.tests

-- the places that have to be unmarked where t fires
abbrev pub forbids : Transition → ℕ
forbids t = bit_or t.produces t.inhibits

-- a transition is enabled when the places that it consumes or tests are marked, and those that it produces or inhibits unmarked
abbrev pub enabled : ℕ → Transition → Bool
enabled m t = within (needs t) m && apart (forbids t) m

-- the places for which t is not enabled: unmarked ones that it consumes or tests, and marked ones that it produces or inhibits
abbrev pub hindering : ℕ → Transition → ℕ
hindering m t = bit_or (without (needs t) m) (bit_and (forbids t) m)

-- a transition can fire when it is enabled and its condition holds
abbrev pub can_fire : ℕ → ℕ → Transition → Bool
can_fire m w t = enabled m t && condition w t.terms

-- firing unmarks the consumed places and marks the produced ones
abbrev pub fire : ℕ → Transition → ℕ
fire m t = bit_or (without m t.consumes) t.produces

-- two sets have a member in common
abbrev pub meet : ℕ → ℕ → Bool
meet a b = not (apart a b)

-- both consume one place, both produce one, one consumes what the other tests, or one produces what the other inhibits
abbrev pub conflict : Transition → Transition → Bool
conflict t u =
    meet t.consumes u.consumes || meet t.produces u.produces
    || meet t.consumes u.tests || meet t.tests u.consumes
    || meet t.produces u.inhibits || meet t.inhibits u.produces

-- where both can fire, two transitions conflict unless each can still fire once the other has
abbrev pub ConflictsHinder : Type 0
ConflictsHinder = (m w : ℕ) (t u : Transition) → can_fire m w t ≡ true → can_fire m w u ≡ true
    → (conflict t u ≡ false) ↔ ((can_fire (fire m t) w u ≡ true) × (can_fire (fire m u) w t ≡ true))
