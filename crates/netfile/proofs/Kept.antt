-- What a record is, if it breaks no rule.
use Rattle.std.proofs.Common.{◌≡◌, ℕ, ◌<◌, ◌≤◌, Bool, true, false, not, ltb, leb, List, [], length}
use Rattle.std.proofs.lemmas.Bool.{leb-false, ltb-false, not-false}
use Rattle.bitset.specs.Sets.{within, apart, below}
use Rattle.nets.specs.declared.term.Term.{Term}
use Rattle.netfile.specs.declared.arcs.ArcRecord.{ArcRecord}
use Rattle.netfile.specs.declared.places.PlaceRecord.{PlaceRecord}
use Rattle.netfile.specs.declared.terms.TermRecord.{TermRecord}
use Rattle.netlayout.specs.declared.refusal.RecordFault.TheVariants.{StartMark, Output, Transition, Place, Kind, HighLine, LowLine}
use Rattle.netlayout.specs.declared.refusal.Refusal.TheVariants.{Record, RepeatedArc, LineInBothWords, FifthTerm}
use Rattle.netlayout.specs.declared.table.Table.TheVariants.{Places, Arcs, Terms}
use Rattle.netfile.specs.Files.{arc_record, term_record, term_list}
use Rattle.netfile.specs.Rules.{place_broken, arc_broken, term_broken, words_broken, arcs_broken, terms_broken, joined_before}
use Rattle.netfile.proofs.Lists.{both_empty, none_at, kept_rule, kept_last}

pub record PlaceKept (outputs : ℕ) (p : PlaceRecord) : Type 0 where
  pub mark : p.mark ≤ 1
  pub raise : within p.raise (below outputs) ≡ true

pub place_kept : (outputs : ℕ) (p : PlaceRecord) (i : ℕ) → place_broken outputs p i ≡ [] → PlaceKept outputs p
place_kept outputs p i e =
    let a = kept_rule (ltb 1 p.mark) (Record Places i StartMark) _ e in
    let b = kept_last (not (within p.raise (below outputs))) (Record Places i Output) a.1 in
    record { mark = ltb-false 1 p.mark a.0; raise = not-false (within p.raise (below outputs)) b }

pub record ArcKept (places transitions : ℕ) (joined : Bool) (a : ArcRecord) : Type 0 where
  pub transition : a.transition < transitions
  pub place : a.place < places
  pub kind : a.kind ≤ 3
  pub alone : joined ≡ false

pub arc_kept : (places transitions : ℕ) (joined : Bool) (a : ArcRecord) (i : ℕ) → arc_broken places transitions joined a i ≡ [] → ArcKept places transitions joined a
arc_kept places transitions joined a i e =
    let x = kept_rule (leb transitions a.transition) (Record Arcs i Transition) _ e in
    let y = kept_rule (leb places a.place) (Record Arcs i Place) _ x.1 in
    let z = kept_rule (ltb 3 a.kind) (Record Arcs i Kind) _ y.1 in
    record {
      transition = leb-false transitions a.transition x.0;
      place = leb-false places a.place y.0;
      kind = ltb-false 3 a.kind z.0;
      alone = kept_last joined (RepeatedArc i) z.1;
    }

-- whether the transition and the place of arc i are joined by an earlier one
abbrev pub joined_at : List ℕ → ℕ → Bool
joined_at arcs i = joined_before arcs (arc_record arcs i).transition (arc_record arcs i).place i

pub arcs_kept : (places transitions : ℕ) (arcs : List ℕ) (k : ℕ) → arcs_broken places transitions arcs k ≡ []
    → (i : ℕ) → i < k → ArcKept places transitions (joined_at arcs i) (arc_record arcs i)
arcs_kept places transitions arcs k e i h =
    arc_kept places transitions (joined_at arcs i) (arc_record arcs i) i
    (none_at (λ j. arc_broken places transitions (joined_at arcs j) (arc_record arcs j) j) k e i h)

pub record WordsKept (lines : ℕ) (c : Term) : Type 0 where
  pub high : within c.high (below lines) ≡ true
  pub low : within c.low (below lines) ≡ true
  pub both : apart c.high c.low ≡ true

pub words_kept : (lines : ℕ) (c : Term) (i : ℕ) → words_broken lines c i ≡ [] → WordsKept lines c
words_kept lines c i e =
    let x = kept_rule (not (within c.high (below lines))) (Record Terms i HighLine) _ e in
    let y = kept_rule (not (within c.low (below lines))) (Record Terms i LowLine) _ x.1 in
    let z = kept_last (not (apart c.high c.low)) (LineInBothWords i) y.1 in
    record {
      high = not-false (within c.high (below lines)) x.0;
      low = not-false (within c.low (below lines)) y.0;
      both = not-false (apart c.high c.low) z;
    }

pub record TermKept (transitions lines earlier : ℕ) (r : TermRecord) : Type 0 where
  pub transition : r.transition < transitions
  pub words : WordsKept lines r.term
  pub few : earlier < 4

pub term_kept : (transitions lines earlier : ℕ) (r : TermRecord) (i : ℕ) → term_broken transitions lines earlier r i ≡ [] → TermKept transitions lines earlier r
term_kept transitions lines earlier r i e =
    let x = kept_rule (leb transitions r.transition) (Record Terms i Transition) _ e in
    let y = both_empty (words_broken lines r.term i) _ x.1 in
    record {
      transition = leb-false transitions r.transition x.0;
      words = words_kept lines r.term i y.0;
      few = leb-false 4 earlier (kept_last (leb 4 earlier) (FifthTerm i) y.1);
    }

-- how many terms before record i are of its transition
abbrev pub earlier_at : List ℕ → ℕ → ℕ
earlier_at terms i = length (term_list terms (term_record terms i).transition i)

pub terms_kept : (transitions lines : ℕ) (terms : List ℕ) (k : ℕ) → terms_broken transitions lines terms k ≡ []
    → (i : ℕ) → i < k → TermKept transitions lines (earlier_at terms i) (term_record terms i)
terms_kept transitions lines terms k e i h =
    term_kept transitions lines (earlier_at terms i) (term_record terms i) i
    (none_at (λ j. term_broken transitions lines (earlier_at terms j) (term_record terms j) j) k e i h)
