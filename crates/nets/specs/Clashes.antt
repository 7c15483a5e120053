-- Clashes: two conflicting transitions that can both fire at some marking under some line word, and which of them is named.
use Rattle.std.specs.Prelude.{◌≡◌, ℕ, zero, suc, ◌<◌, ◌≤◌, Bool, true, cond, ◌&&◌, List, [], ◌∷◌, length, Some, None, Option, bit_or}
use Rattle.bitset.specs.Room.{word_of, set_of}
use Rattle.bitset.specs.Sets.{within, apart, below}
use Rattle.nets.specs.declared.clash.Clash.{Clash}
use Rattle.nets.specs.declared.term.Term.{Term}
use Rattle.nets.specs.Nets.{Net, Transition, at}
use Rattle.nets.specs.Firing.{needs, forbids, can_fire, conflict}
use Rattle.nets.specs.WellFormed.{WellFormed}

-- THE PAIR THAT IS NAMED

-- the first answer of two
abbrev pub or_else : {X : Type 0} → Option X → Option X → Option X
or_else None o = o
or_else (Some x) o = Some x

-- the answer at the least number below k that has one
abbrev pub first_below : {X : Type 0} → (ℕ → Option X) → ℕ → Option X
first_below f zero = None
first_below f (suc k) = or_else (first_below f k) (f k)

-- the answer of the first of a list that has one
abbrev pub first_over : {X Y : Type 0} → (X → Option Y) → List X → Option Y
first_over f [] = None
first_over f (x ∷ xs) = or_else (f x) (first_over f xs)

-- the lines that one of two terms wants high, where neither of them wants one of these low
abbrev pub lines_of_both : Term → Term → Option ℕ
lines_of_both c d = cond (apart (bit_or c.high d.high) (bit_or c.low d.low)) (Some (bit_or c.high d.high)) None

-- the same for a term and the first of several that goes with it
abbrev pub lines_with : Term → List Term → Option ℕ
lines_with c ds = first_over (lines_of_both c) ds

-- a line word under which two conditions hold, if there is one
abbrev pub lines_for : List Term → List Term → Option ℕ
lines_for cs ds = first_over (λ c. lines_with c ds) cs

-- the places that have to be marked for one of two transitions
abbrev pub needs_of_both : Transition → Transition → ℕ
needs_of_both t u = bit_or (needs t) (needs u)

-- no place has to be marked for one of the two and unmarked for one of them
abbrev pub both_enabled : Transition → Transition → Bool
both_enabled t u = apart (needs_of_both t u) (bit_or (forbids t) (forbids u))

-- transitions i and j with this marking, and with a line word if there is one
abbrev pub named : ℕ → ℕ → ℕ → Option ℕ → Option Clash
named i j m None = None
named i j m (Some w) = Some (record { lower = i; higher = j; marking = set_of m; lines = w })

-- the clash of transitions i and j, if they clash
abbrev pub clash_between : Transition → Transition → ℕ → ℕ → Option Clash
clash_between t u i j = cond (conflict t u && both_enabled t u) (named i j (needs_of_both t u) (lines_for t.terms u.terms)) None

-- the clash of transition j, which is u, with the lowest below k that it clashes with
unfoldable pub clash_with : Net → Transition → ℕ → ℕ → Option Clash
clash_with n u j k = first_below (λ i. clash_between (at n i) u i j) k

-- the clash of transition j with the lowest that it clashes with
abbrev pub clash_below : Net → ℕ → Option Clash
clash_below n j = clash_with n (at n j) j j

-- the clash with the least higher number, then the least lower
abbrev pub first_clash : Net → Option Clash
first_clash n = first_below (clash_below n) (length n.transitions)

-- THE LAW OF CLASHES

-- transitions i and j of the net conflict, and both can fire at marking m under line word w
pub record Clashing (n : Net) (i j m w : ℕ) : Type 0 where
  pub in_order : i < j
  pub of_the_net : j < length n.transitions
  pub conflicting : conflict (at n i) (at n j) ≡ true
  pub lower_fires : can_fire m w (at n i) ≡ true
  pub higher_fires : can_fire m w (at n j) ≡ true

-- a clash is the one to be named
pub record First (n : Net) (c : Clash) : Type 0 where
  -- the two clash at the marking and under the line word told
  pub clashing : Clashing n c.lower c.higher (word_of c.marking) c.lines
  -- which have places and lines of the net only
  pub marking_of_the_net : WellFormed n → within (word_of c.marking) (below n.places) ≡ true
  pub lines_of_the_net : WellFormed n → within c.lines (below n.lines) ≡ true
  -- no clash has a lower higher number, and none with this higher number a lower lower one
  pub least_higher : (i j m w : ℕ) → Clashing n i j m w → c.higher ≤ j
  pub least_lower : (i m w : ℕ) → Clashing n i c.higher m w → c.lower ≤ i

-- none is named exactly where no two transitions clash, at whatever marking under whatever line word; and what is named is the first
abbrev pub Told : Net → Option Clash → Type 0
Told n None = (i j m w : ℕ) → Clashing n i j m w → ⊥
Told n (Some c) = First n c
