-- The texts of the words that tell a form.
use Rattle.std.specs.Prelude.{ℕ, List, codes}
use Rattle.lalrpop_json_values.specs.declared.word.Word.{Word}
use Rattle.lalrpop_json_values.specs.declared.word.Word.TheVariants as word

unfoldable pub word_text : Word → List ℕ
word_text word.Choose = codes "choose"
word_text word.Differs = codes "!="
word_text word.Equals = codes "=="
word_text word.Error = codes "error"
word_text word.Extern = codes "extern"
word_text word.Group = codes "group"
word_text word.Id = codes "id"
word_text word.Lookahead = codes "lookahead"
word_text word.Lookbehind = codes "lookbehind"
word_text word.Macro = codes "macro"
word_text word.Match = codes "match"
word_text word.Matches = codes "~~"
word_text word.MatchesNot = codes "!~"
word_text word.Named = codes "named"
word_text word.Plus = codes "+"
word_text word.Priv = codes "priv"
word_text word.Pub = codes "pub"
word_text word.Question = codes "?"
word_text word.Repeat = codes "repeat"
word_text word.Rule = codes "rule"
word_text word.Skip = codes "skip"
word_text word.Star = codes "*"
word_text word.Terminal = codes "terminal"
word_text word.Use = codes "use"
