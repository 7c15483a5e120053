-- The token game: what stands in the way of one transition at one marking under one line word.
use Rattle.std.specs.Prelude.{◌≡◌, ℕ, ◌<◌, Bool, true, false, cond, not, ◌&&◌, List, [], ◌∷◌, ◌++◌, map, length, Some, bit_and, nat_le, nat_lt}
use Rattle.bitset.specs.Lists.{first_of, none_in}
use Rattle.bitset.specs.Room.{room}
use Rattle.bitset.specs.Sets.{has, within, below, members}
use Rattle.nets.specs.declared.refusal_code.RefusalCode.{RefusalCode}
use Rattle.nets.specs.Codes.{four}
use Rattle.nets.specs.Firing.{condition, hindering, can_fire}
use Rattle.nets.specs.Nets.{Net, at}
use Rattle.nets.specs.WellFormed.{WellFormed}
use Rattle.tokengame.specs.declared.game_refusal.GameRefusal.{GameRefusal}
use Rattle.tokengame.specs.declared.game_refusal.GameRefusal.TheVariants.{UnknownPlace, UnknownTransition, NotEnabled, ConditionFails}

-- the four numbers of a refused game; the second is the place that hinders
abbrev pub game_code : GameRefusal → RefusalCode
game_code UnknownPlace = four 17 0 1 0
game_code UnknownTransition = four 17 0 2 0
game_code (NotEnabled place) = four 17 0 3 place
game_code ConditionFails = four 17 0 4 0

-- an obstacle, where it stands in the way
abbrev pub where_so : Bool → GameRefusal → List GameRefusal
where_so b r = cond b (r ∷ []) []

-- each place that hinders, by number
unfoldable pub each_hindering : ℕ → List GameRefusal
each_hindering h = map NotEnabled (members h room)

-- all that stands in the way of transition t at marking m under line word w, in the order in which it is tested
abbrev pub obstacles : Net → ℕ → ℕ → ℕ → List GameRefusal
obstacles n m w t =
    where_so (not (within m (below n.places))) UnknownPlace
    ++ (where_so (nat_le (length n.transitions) t) UnknownTransition
    ++ (each_hindering (hindering m (at n t))
    ++ where_so (not (condition w (at n t).terms)) ConditionFails))

-- the marking has places of the net only, and the transition is one of the net and can fire
abbrev pub playable : Net → ℕ → ℕ → ℕ → Bool
playable n m w t = within m (below n.places) && (nat_lt t (length n.transitions) && can_fire m w (at n t))

-- what the obstacles say in the words of the net
pub record GameLaws (n : Net) (m w t : ℕ) : Type 0 where
  -- there is none exactly where the transition can be played
  pub granted : none_in (obstacles n m w t) ≡ playable n m w t
  -- a place that is told hinders, and no lower place does
  pub lowest : (p : ℕ) → first_of (obstacles n m w t) ≡ Some (NotEnabled p)
      → (has (hindering m (at n t)) p ≡ true) × ((q : ℕ) → q < p → has (hindering m (at n t)) q ≡ false)
  -- lines that the net lacks play no part
  pub lines_ignored : WellFormed n → obstacles n m w t ≡ obstacles n m (bit_and w (below n.lines)) t
