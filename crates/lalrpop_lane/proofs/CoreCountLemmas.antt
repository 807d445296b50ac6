-- What is said of the number of states for each core holds of states put in order, and where memory ran out: for the builder of states.
use Rattle.std.proofs.Common.{◌≡◌, ℕ, List, Ok, Contains, length, subst, sym}
use Rattle.std.specs.Global.{Global}
use Rattle.std.specs.Prelude.{Vec}
use Rattle.lalrpop_grammar_symbols.specs.declared.names.NonterminalString.{NonterminalString}
use Rattle.lalrpop_grammar_repr.specs.declared.grammar.Grammar.{Grammar}
use Rattle.lalrpop_grammar_repr.specs.declared.methods.Method.{Method}
use Rattle.lalrpop_grammar_repr.specs.declared.methods.Method.TheVariants as methods
use Rattle.lalrpop_lr1_theory.specs.ValidCores.{CountsCoreSets}
use Rattle.lalrpop_lr1_core.specs.TheoryGrammars.{theory_grammar}
use Rattle.lalrpop_lr1_core.specs.declared.state.State.{State}
use Rattle.lalrpop_lane.specs.BuilderAnswers.{AreForEachCoreBy}

-- as many other states do as well
pub as_many_for_cores : (method : Method) (g : Grammar) (start : NonterminalString) (old new : Vec (State (List ℕ)) Global) →
    length new.items ≡ length old.items → AreForEachCoreBy method g start (Ok old) → AreForEachCoreBy method g start (Ok new)
as_many_for_cores (methods.Lane copies) g start old new e h =
    λ is. subst (CountsCoreSets (Contains (theory_grammar g)) start.0) (sym e) (h is)
as_many_for_cores methods.Canonical g start old new e h = tt
