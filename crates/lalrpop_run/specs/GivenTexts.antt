-- What is seen of the text that the words give, as a reader.
use Rattle.std.specs.Prelude.{ℕ, ◌+◌, Bool, List, if◌then◌else◌, length}
use Rattle.lalrpop_run.specs.declared.words.given_text.GivenText.{GivenText}
use Rattle.lalrpop_run.specs.declared.words.unreadable.Unreadable.{Unreadable}

abbrev pub unread_of : GivenText → List ℕ
unread_of t = t.rest.now

abbrev pub ended_of : GivenText → Bool
ended_of t = t.ended

abbrev pub misused_of : GivenText → Bool
misused_of t = t.misused

-- each call takes a byte or finds the end, and one behind the end fails
abbrev pub calls_of : GivenText → ℕ
calls_of t = length t.rest.now + (if t.ended then 1 else 2)

abbrev pub text_of_unreadable : Unreadable → List ℕ
text_of_unreadable t = t.text.now

abbrev pub unreadable_misused : Unreadable → Bool
unreadable_misused t = t.misused
