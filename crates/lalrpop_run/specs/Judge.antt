-- What `judge` replies to a grammar.
use Rattle.std.specs.Prelude.{◌≡◌, ◌↔◌, Bool, IsTrue, Result, Ok, Err, Some, None}
use Rattle.serde_json.specs.Data.{Data}
use Rattle.lalrpop_grammar_symbols.specs.Symbols.{Text}
use Rattle.lalrpop_json_values.specs.declared.fault.Fault.{Fault}
use Rattle.lalrpop_json_grammar.specs.ReadTrees.{tree_at}
use Rattle.lalrpop_grammar.specs.declared.grammar.Grammar.{Grammar}
use Rattle.lalrpop_grammar.specs.declared.tree.WrittenTree.{WrittenTree}
use Rattle.lalrpop_grammar.specs.Trees.{leaves}
use Rattle.lalrpop_grammar.specs.Views.{grammar_view, tree_view}
use Rattle.lalrpop_grammar_language.specs.Admitting.{AdmitsFrom}
use Rattle.lalrpop_grammar_language.specs.Enabled.{enabled_grammar}
use Rattle.lalrpop_grammar_rules.specs.Search.{finds}
use Rattle.lalrpop_judge.specs.Faults.{HasSearch}
use Rattle.lalrpop_run.specs.Inputs.{IsJsonOf, IsNoJson}
use Rattle.lalrpop_run.specs.Questions.{Question}
use Rattle.lalrpop_run.specs.declared.replies.reply.Reply.{Reply}
use Rattle.lalrpop_run.specs.declared.replies.reply.Reply.TheVariants as replies

-- what the value of the tree's JSON gives
abbrev pub GivesTree : Question → Result WrittenTree Fault → Type 0
GivesTree q given = (text : Text) × ((q.tree ≡ Some text) × ((d : Data) × (IsJsonOf text d × (tree_at d ≡ given))))

-- The replies in their order. It is `yes` exactly where the start admits the tree over the tokens at its leaves; that a search
-- isn't made is said only where a node of the tree names an enabled alternative under a search for a pattern.
pub data IsJudgeReply (q : Question) (g : Grammar) (reply : Reply) : Type 0 where
  without_tree : q.tree ≡ None → reply ≡ replies.WantsTree → IsJudgeReply q g reply
  no_json : (text : Text) → q.tree ≡ Some text → IsNoJson text → reply ≡ replies.NotJson → IsJudgeReply q g reply
  no_value : (fault : Fault) → GivesTree q (Err fault) → reply ≡ replies.TreeFault fault → IsJudgeReply q g reply
  judged : (t : WrittenTree) (admitted : Bool) → GivesTree q (Ok t)
      → IsTrue admitted ↔ AdmitsFrom finds q.features (grammar_view g) q.start (tree_view t) (leaves (tree_view t))
      → reply ≡ replies.Judged admitted → IsJudgeReply q g reply
  unsearched : (t : WrittenTree) → GivesTree q (Ok t)
      → HasSearch (enabled_grammar finds q.features (grammar_view g)) (tree_view t)
      → reply ≡ replies.ConditionLimit → IsJudgeReply q g reply
