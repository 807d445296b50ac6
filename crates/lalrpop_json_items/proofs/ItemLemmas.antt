-- Grammar items: what is read is spelled so, and what is spelled so is read; for the laws of grammars.
use Rattle.std.proofs.Common.{◌≡◌, ℕ, List, [], ◌∷◌, Option, Some, Ok, refl}
use Rattle.serde_json.specs.Data.{Data}
use Rattle.lalrpop_json_values.specs.declared.fault.Step.TheVariants as step
use Rattle.lalrpop_json_values.specs.declared.form.Form.{Form}
use Rattle.lalrpop_json_values.specs.declared.form.Form.TheVariants as form
use Rattle.lalrpop_json_values.specs.declared.key.Key.TheVariants as key
use Rattle.lalrpop_json_values.specs.declared.word.Word.TheVariants as word
use Rattle.lalrpop_json_values.specs.Forms.{form_at}
use Rattle.lalrpop_json_values.specs.Key.{key_text}
use Rattle.lalrpop_json_values.specs.Lists.{list_at}
use Rattle.lalrpop_json_values.specs.Objects.{field_at, keys_at}
use Rattle.lalrpop_json_values.specs.Scalars.{text_at, word_at}
use Rattle.lalrpop_json_values.specs.Spelled.{EachFrom, list_json}
use Rattle.lalrpop_json_values.specs.Word.{word_text}
use Rattle.lalrpop_json_values.proofs.ListLawLemmas.{list_takes, list_again}
use Rattle.lalrpop_json_values.proofs.ScalarLemmas.{text_takes, word_takes}
use Rattle.lalrpop_json_values.proofs.StepLemmas.{bind_ok, part, ok_same, object_ok}
use Rattle.lalrpop_grammar.specs.declared.extern_token.ExternToken.{ExternToken}
use Rattle.lalrpop_grammar.specs.declared.grammar.GrammarItem.{GrammarItem}
use Rattle.lalrpop_grammar.specs.declared.grammar.GrammarItem.TheVariants as items
use Rattle.lalrpop_grammar.specs.declared.match_token.MatchToken.{MatchToken}
use Rattle.lalrpop_grammar.specs.declared.nonterminal.NonterminalData.{NonterminalData}
use Rattle.lalrpop_json_items.specs.Externs.{extern_at}
use Rattle.lalrpop_json_items.specs.Items.{import_at, item_at, item_by, item_form}
use Rattle.lalrpop_json_items.specs.Matches.{match_at}
use Rattle.lalrpop_json_items.specs.Readable.{IsReadableItem}
use Rattle.lalrpop_json_items.specs.Rules.{rule_at}
use Rattle.lalrpop_json_items.specs.Spelling.{extern_json, item_json, match_json, rule_json}
use Rattle.lalrpop_json_items.proofs.ExternLemmas.{extern_takes, extern_again}
use Rattle.lalrpop_json_items.proofs.MatchLemmas.{match_takes, match_again}
use Rattle.lalrpop_json_items.proofs.RuleLemmas.{rule_takes, rule_again}

abbrev SpelledItem : Data → GrammarItem → Type 0
SpelledItem d i = (d ≡ item_json i) × IsReadableItem i

import_takes : (d : Data) (x : GrammarItem) → import_at d ≡ Ok x → SpelledItem d x
unfolding import_at field_at key_text
import_takes = object_ok (key.Kind ∷ key.Text ∷ []) _ SpelledItem λ fields x e.
    part (step.Key key.Kind) (word_at word.Use fields.0) _ x e λ u kind e.
    part (step.Key key.Text) (text_at fields.1.0) _ x e λ text texts e.
    let kind_is = word_takes word.Use fields.0 u kind in
    let texts_is = text_takes fields.1.0 text texts in
    rw (← ok_same (items.Use text) x e) (rw (kind_is, texts_is) refl, IsReadableItem.import text refl)

by_form : (f : Option Form) (d : Data) (i : GrammarItem) → item_by f d ≡ Ok i → SpelledItem d i
by_form (Some form.Extern) d i e =
    let got = bind_ok (extern_at d) (λ b. Ok (items.ExternToken b)) i e in
    let taken = extern_takes d got.0 got.1 in
    rw (← ok_same (items.ExternToken got.0) i got.2) (taken.0, IsReadableItem.extern_token got.0 refl taken.1)
by_form (Some form.Match) d i e =
    let got = bind_ok (match_at d) (λ b. Ok (items.MatchToken b)) i e in
    let taken = match_takes d got.0 got.1 in
    rw (← ok_same (items.MatchToken got.0) i got.2) (taken.0, IsReadableItem.match_token got.0 refl taken.1)
by_form (Some form.Rule) d i e =
    let got = bind_ok (rule_at d) (λ r. Ok (items.Nonterminal r)) i e in
    let taken = rule_takes d got.0 got.1 in
    rw (← ok_same (items.Nonterminal got.0) i got.2) (taken.0, IsReadableItem.nonterminal got.0 refl taken.1)
by_form (Some form.Use) d i e = import_takes d i e
by_form _ d i e = absurd (cc)

item_takes : (d : Data) (i : GrammarItem) → item_at d ≡ Ok i → SpelledItem d i
unfolding item_at
item_takes d i e = by_form (item_form d) d i e

rule_item : (r : NonterminalData) → rule_at (rule_json r) ≡ Ok r → item_at (rule_json r) ≡ Ok (items.Nonterminal r)
unfolding item_at item_form form_at key_text word_text
rule_item r read = rw read refl

match_item : (b : MatchToken) → match_at (match_json b) ≡ Ok b → item_at (match_json b) ≡ Ok (items.MatchToken b)
unfolding item_at item_form form_at key_text word_text
match_item b read = rw read refl

extern_item : (b : ExternToken) → extern_at (extern_json b) ≡ Ok b → item_at (extern_json b) ≡ Ok (items.ExternToken b)
unfolding item_at item_form form_at key_text word_text
extern_item b read = rw read refl

import_item : (text : List ℕ) → item_at (item_json (items.Use text)) ≡ Ok (items.Use text)
unfolding item_at item_form form_at import_at keys_at field_at key_text text_at word_at word_text
import_item text = refl

item_again : (i : GrammarItem) → IsReadableItem i → item_at (item_json i) ≡ Ok i
item_again i (IsReadableItem.nonterminal r e is) = rw e (rule_item r (rule_again r is))
item_again i (IsReadableItem.match_token b e is) = rw e (match_item b (match_again b is))
item_again i (IsReadableItem.extern_token b e is) = rw e (extern_item b (extern_again b is))
item_again i (IsReadableItem.import text e) = rw e (import_item text)

-- a value that is read as grammar items is their JSON, and each of them has a spelling
pub items_take : (d : Data) (is_ : List GrammarItem) → list_at (λ _. item_at) d ≡ Ok is_ → (d ≡ list_json item_json is_)
    × EachFrom (λ _. IsReadableItem) 0 is_
items_take = list_takes (λ _. item_at) item_json (λ _. IsReadableItem) (λ _. item_takes)

-- the JSON of grammar items that have a spelling is read as those grammar items
pub items_again : (is_ : List GrammarItem) → EachFrom (λ _. IsReadableItem) 0 is_
    → list_at (λ _. item_at) (list_json item_json is_) ≡ Ok is_
items_again = list_again (λ _. item_at) item_json (λ _. IsReadableItem) (λ _. item_again)
