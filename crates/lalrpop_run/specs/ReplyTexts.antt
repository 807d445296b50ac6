-- What the program writes for what it has to say, and the status that it ends with. Each line ends with a line feed.
use Rattle.std.specs.Prelude.{ℕ, true, false, List, [], ◌∷◌, ◌++◌, codes, decimal, string_bytes}
use Rattle.lalrpop_grammar_symbols.specs.Texts.{terminal_text}
use Rattle.lalrpop_json_values.specs.FaultText.{fault_text}
use Rattle.lalrpop_json_values.specs.JsonText.{json_text}
use Rattle.lalrpop_grammar.specs.Trees.{Token}
use Rattle.lalrpop_grammar.specs.Views.{tree_view}
use Rattle.lalrpop_json_grammar.specs.Printing.{tree_text}
use Rattle.lalrpop_run_parser.specs.ConflictTexts.{conflicts_text}
use Rattle.lalrpop_run_prepare.specs.Refusals.{refusal_text}
use Rattle.lalrpop_run_prepare.specs.declared.refusals.refusing.GenerateError.{GenerateError}
use Rattle.lalrpop_run_prepare.specs.declared.refusals.refusing.GenerateError.TheVariants as errors
use Rattle.lalrpop_run.specs.declared.replies.reply.Reply.{Reply}
use Rattle.lalrpop_run.specs.declared.replies.reply.Reply.TheVariants as replies

abbrev pub line : List ℕ → List ℕ
line text = text ++ 10 ∷ []

-- from which byte to which byte it stands, its terminal, and its text as a JSON string
abbrev pub token_text : Token → List ℕ
token_text t = decimal t.span.0 ++ codes ".." ++ decimal t.span.1 ++ codes " " ++ terminal_text t.terminal ++ codes " " ++ json_text t.text

-- a line each
abbrev pub tokens_text : List Token → List ℕ
tokens_text [] = []
tokens_text (t ∷ ts) = line (token_text t) ++ tokens_text ts

abbrev pub reply_text : Reply → List ℕ
reply_text (replies.Judged true) = line (codes "yes")
reply_text (replies.Judged false) = line (codes "no")
reply_text replies.WantsTree = line (codes "judge needs --tree")
reply_text replies.NotJson = line (codes "not JSON")
reply_text (replies.GrammarFault fault) = line (codes "grammar value: " ++ fault_text fault)
reply_text (replies.TreeFault fault) = line (codes "tree value: " ++ fault_text fault)
reply_text replies.ConditionLimit = line (codes "condition limit")
reply_text replies.NotUtf8 = line (codes "text isn't UTF-8")
reply_text (replies.Refused error) = line (refusal_text error)
reply_text (replies.Conflicts conflicts) = conflicts_text conflicts.items
reply_text (replies.Parser states) = line (codes "parser with " ++ decimal states ++ codes " states")
reply_text (replies.Tokens lines) = string_bytes lines
reply_text (replies.NoToken at) = line (codes "no token at byte " ++ decimal at)
reply_text (replies.Tree tree) = line (tree_text (tree_view tree))
reply_text (replies.WrongToken at text) = line (codes "token " ++ json_text text ++ codes " at byte " ++ decimal at)
reply_text replies.EarlyEnd = line (codes "end of input")
reply_text (replies.Report text conflicts) = string_bytes text
reply_text (replies.OverLimit limit) = line (codes "limit of " ++ decimal limit ++ codes " moves used up")

-- the reply alone tells the text, and no part of what was answered
abbrev pub IsPlainReply : Reply → Type 0
IsPlainReply (replies.GrammarFault fault) = ⊥
IsPlainReply (replies.TreeFault fault) = ⊥
IsPlainReply (replies.Refused error) = ⊥
IsPlainReply (replies.Conflicts conflicts) = ⊥
IsPlainReply (replies.Parser states) = ⊥
IsPlainReply (replies.Tokens lines) = ⊥
IsPlainReply (replies.NoToken at) = ⊥
IsPlainReply (replies.Tree tree) = ⊥
IsPlainReply (replies.WrongToken at text) = ⊥
IsPlainReply (replies.Report text conflicts) = ⊥
IsPlainReply (replies.OverLimit limit) = ⊥
IsPlainReply _ = Unit {0}

abbrev pub refusal_status : GenerateError → ℕ
refusal_status errors.Extern = 3
refusal_status errors.Recovery = 3
refusal_status (errors.Norm fault) = 3
refusal_status (errors.UnknownStart name) = 3
refusal_status (errors.PrivateStart name) = 3
refusal_status (errors.Barren name) = 3
refusal_status (errors.Conflicts certificates) = 3
refusal_status errors.ConditionLimit = 3
refusal_status errors.Memory = 5

abbrev pub reply_status : Reply → ℕ
reply_status (replies.Judged true) = 0
reply_status (replies.Judged false) = 1
reply_status replies.WantsTree = 4
reply_status replies.NotJson = 4
reply_status (replies.GrammarFault fault) = 4
reply_status (replies.TreeFault fault) = 4
reply_status replies.ConditionLimit = 3
reply_status replies.NotUtf8 = 4
reply_status (replies.Refused error) = refusal_status error
reply_status (replies.Conflicts conflicts) = 3
reply_status (replies.Parser states) = 0
reply_status (replies.Tokens tokens) = 0
reply_status (replies.NoToken at) = 1
reply_status (replies.Tree tree) = 0
reply_status (replies.WrongToken at text) = 1
reply_status replies.EarlyEnd = 1
reply_status (replies.OverLimit limit) = 2
reply_status (replies.Report text false) = 0
reply_status (replies.Report text true) = 3

-- where a growth was refused
abbrev pub memory_text : List ℕ
memory_text = line (codes "out of memory")

-- where a reader has failed
abbrev pub fault_line : List ℕ
fault_line = line (codes "read fault")
