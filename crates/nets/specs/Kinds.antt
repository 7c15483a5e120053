-- The kinds of arcs by their numbers.
use Rattle.std.specs.Prelude.{◌≡◌, ℕ, cond, Some, None, Option, Result, ◌==◌, MatchResult}
use Rattle.nets.specs.declared.arc_kind.ArcKind.{ArcKind}
use Rattle.nets.specs.declared.arc_kind.UnknownKind.{UnknownKind}
use Rattle.nets.specs.declared.arc_kind.ArcKind.TheVariants.{Consumes, Produces, Tests, Inhibits}

-- the number of a kind
abbrev pub kind_number : ArcKind → ℕ
kind_number Consumes = 0
kind_number Produces = 1
kind_number Tests = 2
kind_number Inhibits = 3

-- the kind with this number
abbrev pub kind_numbered : ℕ → Option ArcKind
kind_numbered n =
    cond (n == 0) (Some Consumes) (cond (n == 1) (Some Produces) (cond (n == 2) (Some Tests) (cond (n == 3) (Some Inhibits) None)))

-- the result is the kind with this number, or an error that tells the number, which no kind has
abbrev pub Decodes : ℕ → Result ArcKind UnknownKind → Type 0
Decodes n r = MatchResult r (λ kind. kind_numbered n ≡ Some kind) (λ e. (e.0 ≡ n) × (kind_numbered n ≡ None))
