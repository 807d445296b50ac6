-- Why a grammar has no parser for a question, as it is replied.
use Rattle.std.specs.Prelude.{◌≡◌, ◌++◌, List, Vec, map}
use Rattle.std.specs.Global.{Global}
use Rattle.std.specs.Option.{option_map}
use Rattle.lalrpop_grammar_symbols.specs.Views.{span_view, terminal_view}
use Rattle.lalrpop_grammar.specs.declared.grammar.Grammar.{Grammar}
use Rattle.lalrpop_grammar.specs.Views.{grammar_view, tree_view}
use Rattle.lalrpop_grammar.specs.WrittenGrammar as written
use Rattle.lalrpop_grammar_repr.specs.declared.norm_error.NormError.{NormError}
use Rattle.lalrpop_grammar_rules.specs.Search.{finds, is_too_deep}
use Rattle.lalrpop_run_parser.specs.declared.conflicts.written_conflict.WrittenConflict.{WrittenConflict}
use Rattle.lalrpop_run_parser.specs.declared.conflicts.written_conflict.WrittenMove.{WrittenMove}
use Rattle.lalrpop_run_parser.specs.declared.conflicts.written_conflict.WrittenMove.TheVariants as moves
use Rattle.lalrpop_run_prepare.specs.PreparedGrammars.{IsPrepared, PreparedGrammar}
use Rattle.lalrpop_run_prepare.specs.PrepareRefusals.{IsPrepareRefusal}
use Rattle.lalrpop_run_prepare.specs.declared.refusals.refusing.GenerateError.{GenerateError}
use Rattle.lalrpop_run_prepare.specs.declared.refusals.refusing.GenerateError.TheVariants as errors
use Rattle.lalrpop_run.specs.Asked.{MoveKind, Refusal, ToldConflict}
use Rattle.lalrpop_run.specs.ListedFaults.{IsListedFault}
use Rattle.lalrpop_run.specs.Questions.{Question, asked_of}
use Rattle.lalrpop_run.specs.ToldConflicts.{IsConflicting}
use Rattle.lalrpop_run.specs.declared.replies.reply.Reply.{Reply}
use Rattle.lalrpop_run.specs.declared.replies.reply.Reply.TheVariants as replies

-- The grammar is refused for this under the question's features, limit and start, before its states are built.
abbrev pub IsRefusedFor : Question → written.Grammar → GenerateError → Type 0
IsRefusedFor q w error = IsPrepareRefusal finds is_too_deep q.features q.macro_limit q.start w error

-- This was prepared of the grammar for the question. The start of its plain productions is the prefix before the start that is asked.
pub record IsPreparedFor (q : Question) (g : Grammar) (v : PreparedGrammar) : Type 0 where
  pub written_is : v.written ≡ g
  pub features_are : v.session.features.items ≡ q.features
  pub limit_is : v.session.macro_recursion_limit ≡ q.macro_limit
  pub start_is : v.start ≡ q.start
  pub name_is : v.start_name.0 ≡ g.prefix ++ q.start
  pub prepared : IsPrepared finds is_too_deep v

-- the refusal that the error says
abbrev pub SaysRefusal : Refusal → GenerateError → Type 0
SaysRefusal Refusal.extern_block error = error ≡ errors.Extern
SaysRefusal Refusal.recovery error = error ≡ errors.Recovery
SaysRefusal (Refusal.fault kind p) error =
    (told : NormError) × (told.kind ≡ kind) × (span_view told.span ≡ p) × (error ≡ errors.Norm told)
SaysRefusal Refusal.condition_limit error = error ≡ errors.ConditionLimit
SaysRefusal (Refusal.unknown_start name) error = error ≡ errors.UnknownStart name
SaysRefusal (Refusal.private_start name) error = error ≡ errors.PrivateStart name
SaysRefusal (Refusal.barren name) error = error ≡ errors.Barren name

abbrev pub TellsRefusal : Refusal → Reply → Type 0
TellsRefusal f reply = (error : GenerateError) × SaysRefusal f error × (reply ≡ replies.Refused error)

abbrev pub kind_view : WrittenMove → MoveKind
kind_view moves.Shift = MoveKind.shift
kind_view moves.Reduce = MoveKind.reduce

-- what a conflict tells
abbrev pub conflict_view : WrittenConflict → ToldConflict
conflict_view it = record {
  shared = it.shared;
  next = option_map terminal_view it.next;
  kind1 = kind_view it.move1;
  tree1 = tree_view it.tree1;
  kind2 = kind_view it.move2;
  tree2 = tree_view it.tree2;
}

abbrev pub TellsConflicts : List ToldConflict → Reply → Type 0
TellsConflicts told reply =
    (shown : Vec WrittenConflict Global) × (map conflict_view shown.items ≡ told) × (reply ≡ replies.Conflicts shown)

-- The reply tells why the grammar has no parser for the question: a fault that stands, the first in order; or, where none does, the
-- conflicts of its expansion.
pub data IsNoParserReply (q : Question) (g : Grammar) (reply : Reply) : Type 0 where
  refused : (f : Refusal) → IsListedFault (asked_of q) (grammar_view g) f → TellsRefusal f reply → IsNoParserReply q g reply
  conflicting : (told : List ToldConflict) → IsConflicting (asked_of q) (grammar_view g) told → TellsConflicts told reply
      → IsNoParserReply q g reply
