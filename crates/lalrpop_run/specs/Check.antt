-- What `check` replies to a grammar that was read.
use Rattle.std.specs.Prelude.{◌≡◌, ℕ, Contains, List, length}
use Rattle.lalrpop_grammar.specs.Views.{grammar_view}
use Rattle.lalrpop_grammar.specs.WrittenGrammar as written
use Rattle.lalrpop_grammar.specs.declared.grammar.Grammar.{Grammar}
use Rattle.lalrpop_grammar_repr.specs.declared.methods.Method.{Method}
use Rattle.lalrpop_grammar_repr.specs.declared.methods.Method.TheVariants as methods
use Rattle.lalrpop_lr1_theory.specs.CheckedStates.{AreCheckedStates}
use Rattle.lalrpop_lr1_theory.specs.States.{State}
use Rattle.lalrpop_lane_theory.specs.Lalr1Grammars.{IsLalr1, IsLeastStateCount}
use Rattle.lalrpop_run.specs.Asked.{Asked, name_of_start}
use Rattle.lalrpop_run.specs.Parsers.{IsNoParserReply}
use Rattle.lalrpop_run.specs.Questions.{Question, asked_of}
use Rattle.lalrpop_run.specs.RightAnswer.{IsRightStateCount, MayBeParsed}
use Rattle.lalrpop_run.specs.declared.replies.reply.Reply.{Reply}
use Rattle.lalrpop_run.specs.declared.replies.reply.Reply.TheVariants as replies

-- There is a parser, and so many states with which the expansion may be parsed; where it is LALR(1), as many as there are nonempty sets of
-- valid items, whatever may follow them, and no states that may be parsed with are fewer.
pub record HasStates (q : Asked) (w : written.Grammar) (count : ℕ) : Type 0 where
  pub parsed : MayBeParsed q w
  pub states : List State
  pub checked : AreCheckedStates parsed.grammar (name_of_start q w) states
  pub count_is : count ≡ length states
  pub fewest : IsLalr1 (Contains parsed.grammar) (name_of_start q w) → IsLeastStateCount parsed.grammar (name_of_start q w) count

-- so many states by the method: by the canonical way as many as there are sets of valid items, by lanes no more than are needed
abbrev pub HasStateCountBy : Method → Asked → written.Grammar → ℕ → Type 0
HasStateCountBy methods.Canonical q w count = IsRightStateCount q w count
HasStateCountBy (methods.Lane copies) q w count = HasStates q w count

-- Why there is no parser, each reason only where no earlier one stands; else how many states there are by the question's method.
pub data IsCheckReply (q : Question) (g : Grammar) (reply : Reply) : Type 0 where
  no_parser : IsNoParserReply q g reply → IsCheckReply q g reply
  parser : (count : ℕ) → HasStateCountBy q.method (asked_of q) (grammar_view g) count → reply ≡ replies.Parser count
      → IsCheckReply q g reply
