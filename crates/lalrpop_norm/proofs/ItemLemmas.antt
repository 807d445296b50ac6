-- Readable alternatives, rules, blocks and items look as passes ask; for readable_grammars_are_read.
use Rattle.std.proofs.Common.{◌≡◌, ℕ, ◌+◌, List, [], ◌∷◌, refl, ap, ap₂, sym, subst, inl, inr, true}
use Rattle.std.specs.Prelude.{map, Option, Some, None, option_map}
use Rattle.lalrpop_grammar_symbols.specs.Symbols.{Text, WrittenSymbol}
use Rattle.lalrpop_grammar_symbols.specs.Views.{literal_view, terminal_view, span_view}
use Rattle.lalrpop_grammar_symbols.specs.declared.terminal.TerminalLiteral.{TerminalLiteral}
use Rattle.lalrpop_grammar_symbols.specs.declared.terminal.TerminalLiteral.TheVariants as literals
use Rattle.lalrpop_grammar_symbols.specs.declared.terminal.TerminalString.{TerminalString}
use Rattle.lalrpop_grammar_symbols.specs.declared.span.Span.{Span}
use Rattle.lalrpop_grammar.specs.declared.types.type_ref.TypeRef.{TypeRef}
use Rattle.lalrpop_grammar.specs.WrittenGrammar as pure
use Rattle.lalrpop_grammar.specs.WrittenGrammar.{Ty, WrittenEntry}
use Rattle.lalrpop_grammar.specs.Views.{alternative_view, condition_view, action_view, nonterminal_view, match_item_view}
use Rattle.lalrpop_grammar.specs.Views.{mapping_view, item_view, type_view, origin_view}
use Rattle.lalrpop_grammar.specs.declared.alternative.ActionKind.{ActionKind}
use Rattle.lalrpop_grammar.specs.declared.alternative.Alternative.{Alternative}
use Rattle.lalrpop_grammar.specs.declared.condition.Condition.{Condition}
use Rattle.lalrpop_grammar.specs.declared.grammar.GrammarItem.{GrammarItem}
use Rattle.lalrpop_grammar.specs.declared.match_token.MatchContents.{MatchContents}
use Rattle.lalrpop_grammar.specs.declared.match_token.MatchItem.{MatchItem}
use Rattle.lalrpop_grammar.specs.declared.match_token.MatchMapping.{MatchMapping}
use Rattle.lalrpop_grammar.specs.declared.nonterminal.NonterminalData.{NonterminalData}
use Rattle.lalrpop_grammar_language.specs.Among.{Among}
use Rattle.lalrpop_grammar_language.specs.Enabled.{at_places}
use Rattle.lalrpop_json_values.specs.Spelled.{EachFrom, IfSome}
use Rattle.lalrpop_json_symbols.specs.Readable.{IsReadableTerminal, IsReadableType}
use Rattle.lalrpop_json_items.specs.Readable.{IsReadableAction, IsReadableCondition, IsReadableAlternative, IsReadableParameter}
use Rattle.lalrpop_json_items.specs.Readable.{IsReadableRule, IsReadableMapping, IsReadableEntry, IsReadableContents, IsReadableItem}
use Rattle.lalrpop_norm_theory.specs.Between.{with_origins}
use Rattle.lalrpop_norm_theory.specs.Premises.{is_identifier, IsReadForm, IsReadAction, IsReadAlternative, IsReadRule}
use Rattle.lalrpop_norm_theory.specs.Premises.{IsReadEntry, IsReadItem, symbols_of_type}
use Rattle.lalrpop_norm.proofs.NameLemmas.{name_read}
use Rattle.lalrpop_norm.proofs.SymbolLemmas.{symbols_forms, type_forms}

-- each of a list of images comes from one that has the fact
pub each_image : {A B : Type 0} (P : ℕ → A → Type 0) (Q : B → Type 0) (f : A → B)
    → ((i : ℕ) (a : A) → P i a → Q (f a)) →
    (i : ℕ) (xs : List A) → EachFrom P i xs → (b : B) → Among (map f xs) b → Q b
each_image P Q f one i [] h b j = absurd j
each_image P Q f one i (x ∷ xs) h b (inl e) = subst Q e (one i x h.0)
each_image P Q f one i (x ∷ xs) h b (inr j) = each_image P Q f one (i + 1) xs h.1 b j

-- alternatives

action_read : (a : Option ActionKind) → IsReadableAction a → IsReadAction (action_view a)
action_read a (IsReadableAction.absent e) = subst (λ b. IsReadAction (action_view b)) (sym e) tt
action_read a (IsReadableAction.user text e) = subst (λ b. IsReadAction (action_view b)) (sym e) tt
action_read a (IsReadableAction.fallible text e) = subst (λ b. IsReadAction (action_view b)) (sym e) tt

condition_read : (o : Option Condition) → IfSome IsReadableCondition o → (c : pure.Condition) → option_map condition_view o ≡ Some c
    → is_identifier c.parameter ≡ true
condition_read None h c e = cc
condition_read (Some d) h c e =
    let same : condition_view d ≡ c = cc in subst (λ k. is_identifier k.parameter ≡ true) same (name_read d.lhs.0 h.lhs)

pub alternative_read : (n : Text) (i : ℕ) (a : Alternative) → IsReadableAlternative n i a → IsReadAlternative (alternative_view a)
alternative_read n i a h = record {
  symbols = symbols_forms a.expr h.expr;
  condition = condition_read a.condition h.condition;
  action = action_read a.action h.action;
}

-- each alternative tells the place at which it stands
places_read : (n : Text) (i : ℕ) (xs : List Alternative) → EachFrom (IsReadableAlternative n) i xs →
    with_origins (map alternative_view xs) ≡ at_places n i (map alternative_view xs)
places_read n i [] h = refl
places_read n i (a ∷ rest) h =
    ap₂ ◌∷◌ (ap (λ o. (origin_view o, alternative_view a)) h.0.origin) (places_read n (i + 1) rest h.1)

-- rules

declared_read : (o : Option TypeRef) → IfSome IsReadableType o → (t : Ty) → option_map type_view o ≡ Some t
    → (x : WrittenSymbol) →
    Among (symbols_of_type t) x → IsReadForm x
declared_read None h t e = cc
declared_read (Some u) h t e =
    let same : type_view u ≡ t = cc in
    subst (λ z. (x : WrittenSymbol) → Among (symbols_of_type z) x → IsReadForm x) same (type_forms u h)

pub rule_read : (r : NonterminalData) → IsReadableRule r → IsReadRule (nonterminal_view r)
rule_read r h = record {
  name = name_read r.name.0 h.name;
  parameters = each_image (λ _. IsReadableParameter) (λ n. is_identifier n ≡ true) (λ n. n.0) (λ i n k. name_read n.0 k) 0
      r.args h.args;
  types = declared_read r.type_decl h.declared;
  alternatives = each_image (IsReadableAlternative r.name.0) IsReadAlternative alternative_view (alternative_read r.name.0) 0
      r.alternatives h.alternatives;
  places = places_read r.name.0 0 r.alternatives h.alternatives;
}

-- match blocks

mapped_literal : (l k : TerminalLiteral) (p : Span) → IsReadEntry (WrittenEntry.mapped (literal_view l) (literal_view k) (span_view p))
mapped_literal l (literals.Quoted t) p = tt
mapped_literal l (literals.Regex t) p = tt

terminal_read : (l : TerminalLiteral) (t : TerminalString) (p : Span) → IsReadableTerminal t →
    IsReadEntry (WrittenEntry.mapped (literal_view l) (terminal_view t) (span_view p))
terminal_read l t p (IsReadableTerminal.literal k e) =
    subst (λ u. IsReadEntry (WrittenEntry.mapped (literal_view l) (terminal_view u) (span_view p))) (sym e) (mapped_literal l k p)
terminal_read l t p (IsReadableTerminal.bare n e k) =
    subst (λ u. IsReadEntry (WrittenEntry.mapped (literal_view l) (terminal_view u) (span_view p))) (sym e) (name_read n k)

mapping_read : (l : TerminalLiteral) (m : MatchMapping) (p : Span) → IsReadableMapping m → IsReadEntry (mapping_view l m p)
mapping_read l m p (IsReadableMapping.skip e) = subst (λ u. IsReadEntry (mapping_view l u p)) (sym e) tt
mapping_read l m p (IsReadableMapping.terminal t e h) =
    subst (λ u. IsReadEntry (mapping_view l u p)) (sym e) (terminal_read l t p h)

entry_read : (i : ℕ) (e : MatchItem) → IsReadableEntry e → IsReadEntry (match_item_view e)
entry_read i e (IsReadableEntry.catch_all p d k) = subst (λ u. IsReadEntry (match_item_view u)) (sym d) tt
entry_read i e (IsReadableEntry.unmapped l p d k) = subst (λ u. IsReadEntry (match_item_view u)) (sym d) tt
entry_read i e (IsReadableEntry.mapped l m p d h k) =
    subst (λ u. IsReadEntry (match_item_view u)) (sym d) (mapping_read l m p h)

abbrev AreReadEntries : List WrittenEntry → Type 0
AreReadEntries group = (e : WrittenEntry) → Among group e → IsReadEntry e

contents_read : (i : ℕ) (c : MatchContents) → IsReadableContents c → AreReadEntries (map match_item_view c.items)
contents_read i c h = each_image (λ _. IsReadableEntry) IsReadEntry match_item_view entry_read 0 c.items h

-- items

-- an item that has a spelling is seen as one that a grammar may have as it is read
pub item_read : (i : ℕ) (x : GrammarItem) → IsReadableItem x → IsReadItem (item_view x)
item_read i x (IsReadableItem.nonterminal r e h) = subst (λ u. IsReadItem (item_view u)) (sym e) (rule_read r h)
item_read i x (IsReadableItem.match_token b e h) =
    subst (λ u. IsReadItem (item_view u)) (sym e)
    (each_image (λ _. IsReadableContents) AreReadEntries (λ c. map match_item_view c.items) contents_read 0 b.contents h.contents)
item_read i x (IsReadableItem.extern_token b e h) = subst (λ u. IsReadItem (item_view u)) (sym e) tt
item_read i x (IsReadableItem.import t e) = subst (λ u. IsReadItem (item_view u)) (sym e) tt
