-- What certificates show, over lists of productions and over a grammar's: for the law on them.
use Rattle.std.specs.Prelude.{List, Contains}
use Rattle.lalrpop_grammar_symbols.specs.Symbols.{Text}
use Rattle.lalrpop_grammar_repr.specs.declared.grammar.Grammar.{Grammar}
use Rattle.lalrpop_lr1_theory.specs.Productions.{Production}
use Rattle.lalrpop_lr1_theory.specs.Answers.{IsLr1}
use Rattle.lalrpop_lr1_core.specs.TheoryGrammars.{theory_grammar}
use Rattle.lalrpop_lr1_first.specs.FirstSetsOf.{IsProductionOf}
use Rattle.lalrpop_judge.specs.Certificates.{ShownConflict, Certifies}

-- a grammar for which something certifies a conflict is not LR(1)
abbrev pub CertificatesRefute : Type 0
CertificatesRefute =
    (grammar : List Production) (s : Text) (c : ShownConflict) → Certifies (Contains grammar) s c →
    IsLr1 (Contains grammar) s → ⊥

-- a grammar for which the test says yes is not LR(1), over the list of its productions
abbrev pub CheckedConflictsRefute : Type 0
CheckedConflictsRefute =
    (g : Grammar) (s : Text) (c : ShownConflict) → Certifies (IsProductionOf g) s c → IsLr1 (Contains (theory_grammar g)) s → ⊥
