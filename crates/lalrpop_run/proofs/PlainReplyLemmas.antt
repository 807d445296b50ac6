-- Replies whose texts tell no part of what was answered: for the printing of replies.
use Rattle.std.proofs.Common.{◌≡◌, ℕ, Bool, true, false, refl}
use Rattle.std.specs.Prelude.{String, Vec}
use Rattle.std.specs.declared.alloc.Global.{Global}
use Rattle.lalrpop_grammar.specs.declared.tree.WrittenTree.{WrittenTree}
use Rattle.lalrpop_grammar_symbols.specs.Symbols.{Text}
use Rattle.lalrpop_json_values.specs.declared.fault.Fault.{Fault}
use Rattle.lalrpop_run_parser.specs.declared.conflicts.written_conflict.WrittenConflict.{WrittenConflict}
use Rattle.lalrpop_run_prepare.specs.declared.refusals.refusing.GenerateError.{GenerateError}
use Rattle.lalrpop_run.specs.ReplyTexts.{IsPlainReply}
use Rattle.lalrpop_run.specs.declared.replies.reply.Reply.{Reply}
use Rattle.lalrpop_run.specs.declared.replies.reply.Reply.TheVariants as replies

-- a reply that is none of those that have a part is plain
pub plain_else : (r : Reply)
    → ((x : Fault) → r ≡ replies.GrammarFault x → ⊥) → ((x : Fault) → r ≡ replies.TreeFault x → ⊥)
    → ((e : GenerateError) → r ≡ replies.Refused e → ⊥) → ((cs : Vec WrittenConflict Global) → r ≡ replies.Conflicts cs → ⊥)
    → ((n : ℕ) → r ≡ replies.Parser n → ⊥) → ((t : String Global) → r ≡ replies.Tokens t → ⊥)
    → ((t : String Global) (b : Bool) → r ≡ replies.Report t b → ⊥) → ((at : ℕ) → r ≡ replies.NoToken at → ⊥)
    → ((t : WrittenTree) → r ≡ replies.Tree t → ⊥) → ((at : ℕ) (t : Text) → r ≡ replies.WrongToken at t → ⊥)
    → ((limit : ℕ) → r ≡ replies.OverLimit limit → ⊥) → IsPlainReply r
plain_else (replies.GrammarFault x) a b d e f g h i j k l = a x refl
plain_else (replies.TreeFault x) a b d e f g h i j k l = b x refl
plain_else (replies.Refused x) a b d e f g h i j k l = d x refl
plain_else (replies.Conflicts x) a b d e f g h i j k l = e x refl
plain_else (replies.Parser x) a b d e f g h i j k l = f x refl
plain_else (replies.Tokens x) a b d e f g h i j k l = g x refl
plain_else (replies.Report x y) a b d e f g h i j k l = h x y refl
plain_else (replies.NoToken x) a b d e f g h i j k l = i x refl
plain_else (replies.Tree x) a b d e f g h i j k l = j x refl
plain_else (replies.WrongToken x y) a b d e f g h i j k l = k x y refl
plain_else (replies.OverLimit x) a b d e f g h i j k l = l x refl
plain_else (replies.Judged true) a b d e f g h i j k l = tt
plain_else (replies.Judged false) a b d e f g h i j k l = tt
plain_else replies.WantsTree a b d e f g h i j k l = tt
plain_else replies.NotJson a b d e f g h i j k l = tt
plain_else replies.ConditionLimit a b d e f g h i j k l = tt
plain_else replies.NotUtf8 a b d e f g h i j k l = tt
plain_else replies.EarlyEnd a b d e f g h i j k l = tt
