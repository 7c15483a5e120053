-- A condition, term by term.
use Rattle.std.proofs.Common.{◌≡◌, ℕ, suc, ◌+◌, ◌<◌, Bool, ◌&&◌, ◌||◌, List, [], ◌∷◌, length, get_or, drop, sym, refl, ap, ◌∙◌, ap₂, ⊎_elim, arith}
use lib.Bits.{bit_and}
use Rattle.std.proofs.lemmas.List.{drop_more, get_or_past}
use Rattle.std.proofs.lemmas.Bool.{cases_lt}
use Rattle.bitset.specs.Sets.{below}
use Rattle.bitset.proofs.Sets.{within_cut, apart_cut}
use Rattle.nets.specs.declared.term.Term.{Term}
use Rattle.nets.specs.Firing.{term_holds, condition}
use Rattle.nets.specs.Nets.{Net, unconnected, at}
use Rattle.nets.specs.WellFormed.{WellFormedTerm, always, WellFormed}

-- the condition from term i on is this term or what follows
pub next_term : (w : ℕ) (ts : List Term) (i : ℕ) (d : Term) (b : Bool) → i < length ts → b ≡ term_holds w (get_or ts i d)
    → (b || condition w (drop (i + 1) ts)) ≡ condition w (drop i ts)
next_term w ts i d b h e = ap (λ x. x || condition w (drop (i + 1) ts)) e ∙ sym (ap (condition w) (drop_more ts i d h))

-- LINES THAT A NET LACKS

term_cut : (n : Net) (w : ℕ) (c : Term) → WellFormedTerm n c → term_holds w c ≡ term_holds (bit_and w (below n.lines)) c
term_cut n w c f =
    sym (ap₂ ◌&&◌ (within_cut c.high (below n.lines) w f.high_of_the_net) (apart_cut c.low (below n.lines) w f.low_of_the_net))

terms_cut : (n : Net) (w : ℕ) (cs : List Term) → ((k : ℕ) → k < length cs → WellFormedTerm n (get_or cs k always))
    → condition w cs ≡ condition (bit_and w (below n.lines)) cs
terms_cut n w [] f = refl
terms_cut n w (c ∷ cs) f = ap₂ ◌||◌ (term_cut n w c (f 0 (omega arith))) (terms_cut n w cs (λ k h. f (suc k) (omega arith)))

-- the condition of a transition is the same whatever lines the net lacks are high
pub condition_cut : (n : Net) → WellFormed n → (w t : ℕ) → condition w (at n t).terms ≡ condition (bit_and w (below n.lines)) (at n t).terms
condition_cut n f w t = ⊎_elim
    (λ l. terms_cut n w (at n t).terms (f.each_transition t l).each_term)
    (λ l. rw (get_or_past n.transitions t unconnected l) refl)
    (cases_lt t (length n.transitions))
