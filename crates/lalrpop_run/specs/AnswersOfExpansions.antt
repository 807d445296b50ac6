-- It doesn't matter which productions of an expansion are taken: their names and the numbers of their actions may differ, and nothing
-- else does.
use Rattle.std.specs.Prelude.{ℕ, ◌≡◌, ◌++◌, Bool, Contains, List, Option}
use Rattle.lalrpop_grammar_symbols.specs.Symbols.{Text, Terminal}
use Rattle.lalrpop_grammar.specs.WrittenGrammar.{Grammar}
use Rattle.lalrpop_grammar_language.specs.Enabled.{enabled_grammar}
use Rattle.lalrpop_grammar_language.specs.Expansion.{InExpansion, Nonterminal}
use Rattle.lalrpop_lr1_theory.specs.Answers.{HasRun, IsLr1}
use Rattle.lalrpop_lr1_theory.specs.Productions.{Production}
use Rattle.lalrpop_lr1_theory.specs.ValidItems.{CountsItemSets}
use Rattle.lalrpop_judge.specs.Certificates.{Certifies, ShownConflict}
use Rattle.lalrpop_run_theory.specs.TextAnswers.{AreExpansionOf}
use Rattle.lalrpop_run.specs.ToldConflicts.{told_of}

-- what is said of the productions of an expansion, from the start, is said of any others of it
abbrev pub IsSaidOfAll : ((Production → Type 0) → Text → Type 0) → Type 0
IsSaidOfAll Says =
    (finds : Text → Text → Option Bool) (features : List Text) (w : Grammar) (start : Text) (some others : List Production) →
    InExpansion (enabled_grammar finds features w) (Nonterminal.start start) → AreExpansionOf finds features w some →
    AreExpansionOf finds features w others → Says (Contains some) (w.prefix ++ start) → Says (Contains others) (w.prefix ++ start)

-- whether they are LR(1)
abbrev pub Lr1IsSaidOfAll : Type 0
Lr1IsSaidOfAll = IsSaidOfAll IsLr1

-- and how many sets of items there are
abbrev pub CountsAreSaidOfAll : Type 0
CountsAreSaidOfAll = (n : ℕ) → IsSaidOfAll (λ G s. CountsItemSets G s n)

-- and whether a run over tokens has so many moves
abbrev pub RunsAreSaidOfAll : Type 0
RunsAreSaidOfAll = (tokens : List Terminal) (count : ℕ) → IsSaidOfAll (λ G s. HasRun G s tokens count)

-- of a certificate the same is told as of one over the others
abbrev pub CertificatesAreSaidOfAll : Type 0
CertificatesAreSaidOfAll =
    (finds : Text → Text → Option Bool) (features : List Text) (w : Grammar) (start : Text) (some others : List Production) →
    InExpansion (enabled_grammar finds features w) (Nonterminal.start start) → (e : AreExpansionOf finds features w some)
    (f : AreExpansionOf finds features w others) (it : ShownConflict) → Certifies (Contains some) (w.prefix ++ start) it →
    (other : ShownConflict) × Certifies (Contains others) (w.prefix ++ start) other × (told_of e.label_of it ≡ told_of f.label_of other)

-- there is one number of sets of items
abbrev pub CountsAreOne : Type 0
CountsAreOne =
    (grammar : List Production) (s : Text) (n m : ℕ) → CountsItemSets (Contains grammar) s n → CountsItemSets (Contains grammar) s m →
    n ≡ m
