-- Why a start isn't parsed from, as it is told; for what expands a grammar.
use Rattle.std.proofs.Common.{◌≡◌, Bool, false, refl, subst, Contains}
use Rattle.std.specs.Prelude.{IsTrue, Option, Some}
use Rattle.std.specs.List.Sorted.{IsStrictlySortedBy}
use Rattle.std.specs.Map.{keys_of}
use Rattle.lalrpop_grammar_symbols.specs.Symbols.{Text}
use Rattle.lalrpop_grammar_symbols.specs.contracts.names.NonterminalStringOrd.TheImpl as names
use Rattle.lalrpop_grammar_symbols.specs.declared.names.NonterminalString.{NonterminalString}
use Rattle.lalrpop_grammar_symbols.specs.declared.span.Span.{Span}
use Rattle.lalrpop_grammar_repr.specs.declared.grammar.Grammar.{Grammar}
use Rattle.lalrpop_lr1_barren.specs.LeastBarren.{IsLeastBarren}
use Rattle.lalrpop_lr1_barren.proofs.AloneLemmas.{alone_seen}
use Rattle.lalrpop_lr1_core.specs.TheoryGrammars.{theory_grammar}
use Rattle.lalrpop_lr1_inline.specs.InlinedGrammars.{IsInlinedGrammar}
use Rattle.lalrpop_lr1_theory.specs.ValidItems.{NoneBarren}
use Rattle.lalrpop_norm_lower.specs.TableReadiness.{IsReadyForTables}
use Rattle.lalrpop_run_prepare.specs.NamedGrammars.{StandUnderNames}
use Rattle.lalrpop_run_prepare.specs.PrepareRefusals.{IsRefusedExpansion}
use Rattle.lalrpop_run_prepare.specs.PreparedGrammars.{MayBeParsedFrom}
use Rattle.lalrpop_run_prepare.specs.StartRules.{IsStartOf}
use Rattle.lalrpop_run_prepare.proofs.StartRuleLemmas.{start_none_barren}
use Rattle.lalrpop_run_prepare.proofs.StepTreeLemmas.{steps_none_barren}
use Rattle.lalrpop_run_prepare.specs.declared.refusals.refusing.GenerateError.TheVariants as errors

-- what a test that answered no tests doesn't hold
pub isnt_so : {X : Type 0} (r : Bool) → r ≡ false → (X → IsTrue r) → X → ⊥
isnt_so r e f x = let t = f x in let z : ⊥ = cc in z

-- after inlining the start may be parsed from, where it leads to its rule alone, which reached nothing barren before
pub start_parsed : (g after : Grammar) (start : Text) (name : NonterminalString) → IsReadyForTables g
    → IsStrictlySortedBy (names.ghosts).cmp (keys_of g.nonterminals) → IsInlinedGrammar g after
    → NoneBarren (Contains (theory_grammar g)) start → IsStartOf start g after name → MayBeParsedFrom after name
start_parsed g after start name ready sorted i none_barren s =
    let own : StandUnderNames g.nonterminals = λ e p j k. ready.named e.0 e.1 p j k in
    record {
      alone = alone_seen after name s.alone;
      none_barren = steps_none_barren i.order g.nonterminals after.nonterminals g.action_fn_defns after.action_fn_defns i.steps sorted own
          name.0 (start_none_barren g sorted own name.0 start s.leads none_barren);
    }

-- the least barren nonterminal that a start reaches, where one is found, is told as the refusal of its expansion
pub barren_told : (whole : Span) (g : Grammar) (start : Text) (name : NonterminalString) (after : Grammar)
    (found : Option NonterminalString) (n : NonterminalString) → found ≡ Some n → name.0 ≡ start → IsInlinedGrammar g after
    → IsLeastBarren (Contains (theory_grammar g)) name.0 found → IsRefusedExpansion whole g start (errors.Barren n.0)
barren_told whole g start name after found n e same i least =
    let told : IsLeastBarren (Contains (theory_grammar g)) start (Some n) =
    subst (λ (t : Text). IsLeastBarren (Contains (theory_grammar g)) t (Some n)) same
    (subst (IsLeastBarren (Contains (theory_grammar g)) name.0) e least) in
    IsRefusedExpansion.barren n after i told refl
