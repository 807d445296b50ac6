-- What stands among the entries of maps as definitions see them, and tokenizers and algorithms as they are seen; for the laws of
-- lowering.
use Rattle.std.proofs.Common.{◌≡◌, List, [], ◌∷◌, ◌++◌, refl, ap, sym, ◌∙◌, subst, inl, inr}
use Rattle.std.proofs.lemmas.List.{append-nil}
use Rattle.std.specs.List.{cons_option}
use Rattle.std.specs.Prelude.{◌||◌, Option, Some, None, codes, filter_map, map, option_map}
use Rattle.lalrpop_grammar_symbols.specs.Symbols.{Text, Terminal}
use Rattle.lalrpop_grammar_symbols.specs.Views.{terminal_view}
use Rattle.lalrpop_grammar_symbols.specs.contracts.names.NonterminalStringOrd.TheImpl as names
use Rattle.lalrpop_grammar_symbols.specs.declared.names.NonterminalString.{NonterminalString}
use Rattle.lalrpop_grammar_symbols.specs.declared.terminal.TerminalString.{TerminalString}
use Rattle.lalrpop_grammar.specs.Items.{first_in, intern_in}
use Rattle.lalrpop_grammar.specs.Views.{attribute_view, entry_mapping_view, intern_entry_view, item_view}
use Rattle.lalrpop_grammar.specs.WrittenGrammar.{EntryMapping, InternEntry, WrittenItem}
use Rattle.lalrpop_grammar.specs.declared.grammar.GrammarItem.{GrammarItem}
use Rattle.lalrpop_grammar.specs.declared.grammar.GrammarItem.TheVariants as items
use Rattle.lalrpop_grammar.specs.declared.match_token.MatchMapping.{MatchMapping}
use Rattle.lalrpop_grammar.specs.declared.match_token.MatchMapping.TheVariants as maps
use Rattle.lalrpop_grammar_language.specs.Among.{Among}
use Rattle.lalrpop_grammar_language.specs.Enabled.{has_attr}
use Rattle.lalrpop_grammar_language.proofs.PlaceLemmas.{among_map}
use Rattle.lalrpop_grammar_repr.specs.Algorithms.{has_lalr, is_lalr}
use Rattle.lalrpop_grammar_repr.specs.Maps.{at_name}
use Rattle.lalrpop_grammar.specs.declared.types.attribute.Attribute.{Attribute}
use Rattle.lalrpop_grammar_language.proofs.AmongLemmas.{flat_map_among}
use Rattle.lalrpop_grammar_language.proofs.AmongLemmas.{map_among}
use Rattle.lalrpop_grammar_language.proofs.AmongLemmas.{among_flat_map}
use Rattle.lalrpop_norm_tyinfer.specs.TerminalTypes.{terminal_of_mapping, terminals_of_item, terminals_of_items}
use Rattle.lalrpop_norm_tyinfer.specs.TypeFaults.{nonterminal_of}
use Rattle.lalrpop_norm_lower.specs.Lowered.{entries_or_none}
use Rattle.lalrpop_norm_lower.proofs.OrderLemmas.{equal_names}
use Rattle.lalrpop_norm_lower.proofs.PutLemmas.{found_among}
use Rattle.lalrpop_norm_chain.specs.PremiseLaws.{entries_of_item, entries_of_items}
use Rattle.lalrpop_norm_chain.specs.LoweredViews.{first_entries, found_entries, found_names}

-- maps

among_filter_map : {A B : Type 0} (f : A → Option B) (xs : List A) (y : B) → Among (filter_map f xs) y
    → (x : A) × Among xs x × (f x ≡ Some y)
among_filter_map f [] y i = absurd i
among_filter_map {A} {B} f (x ∷ xs) y i = go (f x) refl i (λ j. among_filter_map f xs y j)
  where
    go : (o : Option B) → f x ≡ o → Among (cons_option o (filter_map f xs)) y
        → (Among (filter_map f xs) y → (z : A) × Among xs z × (f z ≡ Some y)) → (z : A) × Among (x ∷ xs) z × (f z ≡ Some y)
    go None e j later = let u = later j in (u.0, inr u.1, u.2)
    go (Some z) e (inl same) later = (x, inl refl, e ∙ ap Some same)
    go (Some z) e (inr j) later = let u = later j in (u.0, inr u.1, u.2)

filter_map_among : {A B : Type 0} (f : A → Option B) (xs : List A) (x : A) (y : B) → Among xs x → f x ≡ Some y
    → Among (filter_map f xs) y
filter_map_among f [] x y i e = absurd i
filter_map_among f (z ∷ xs) x y (inl same) e =
    subst (λ o. Among (cons_option o (filter_map f xs)) y) (sym (ap f same ∙ e)) (inl refl)
filter_map_among {A} {B} f (z ∷ xs) x y (inr i) e = go (f z) (filter_map_among f xs x y i e)
  where
    go : (o : Option B) → Among (filter_map f xs) y → Among (cons_option o (filter_map f xs)) y
    go None j = j
    go (Some u) j = inr j

module _ {X : Type 0} (es : List (NonterminalString × X)) where
  pair_found : (n : NonterminalString) (e : NonterminalString × X) (o : Option X) → at_name n es ≡ o
      → option_map (λ x. (n, x)) o ≡ Some e → at_name e.0 es ≡ Some e.1
  pair_found n e None h f = absurd (let wrong : ⊥ = cc in wrong)
  pair_found n e (Some x) h f =
      let pair : (n, x) ≡ e = cc in
      subst (λ (d : NonterminalString × X). at_name d.0 es ≡ Some d.1) pair h

  -- what is among the entries stands at its name
  pub entry_found : (e : NonterminalString × X) → Among (found_entries es) e → at_name e.0 es ≡ Some e.1
  entry_found e i =
      let u = among_filter_map (λ (d : NonterminalString × X). option_map (λ x. (d.0, x)) (at_name d.0 es)) es e i in
      pair_found u.0.0 e (at_name u.0.0 es) refl u.2

  -- and what stands at a name is among them
  pub found_entry : (n : NonterminalString) (x : X) → at_name n es ≡ Some x → Among (found_entries es) (n, x)
  found_entry n x h =
      filter_map_among (λ (d : NonterminalString × X). option_map (λ y. (d.0, y)) (at_name d.0 es)) es (n, x) (n, x)
      (found_among (names.ghosts).cmp equal_names es n x h) (ap (option_map (λ y. (n, y))) h)

  pub name_found : (n : Text) → Among (found_names es) n → (x : X) × (at_name (nonterminal_of n) es ≡ Some x)
  name_found n i =
      let u = among_map (λ (e : NonterminalString × X). e.0.0) (found_entries es) n i in
      (u.0.1, ap (λ k. at_name (nonterminal_of k) es) (sym u.2) ∙ entry_found u.0 u.1)

  pub found_name : (n : NonterminalString) (x : X) → at_name n es ≡ Some x → Among (found_names es) n.0
  found_name n x h = map_among (λ (e : NonterminalString × X). e.0.0) (found_entries es) (n, x) (found_entry n x h)

-- algorithms

-- a program's attributes ask for LALR exactly where their views have an attribute of that name
pub lalr_is : (as_ : List Attribute) → has_lalr as_ ≡ has_attr (codes "LALR") (map attribute_view as_)
lalr_is [] = refl
lalr_is (a ∷ as_) = ap (λ b. is_lalr a || b) (lalr_is as_)

-- tokenizers

-- the first tokenizer of a program's grammar is the first one that definitions see
pub first_is : (is : List GrammarItem) → map intern_entry_view (entries_or_none (first_in intern_in is))
    ≡ first_entries (map item_view is)
first_is [] = refl
first_is (items.InternToken t ∷ is) = refl
first_is (items.Nonterminal r ∷ is) = first_is is
first_is (items.MatchToken b ∷ is) = first_is is
first_is (items.ExternToken b ∷ is) = first_is is
first_is (items.Use t ∷ is) = first_is is

mapped_to : (m : EntryMapping) (t : Terminal) → Among (terminal_of_mapping m) t → m ≡ EntryMapping.terminal t
mapped_to (EntryMapping.terminal u) t (inl e) = ap EntryMapping.terminal e
mapped_to (EntryMapping.terminal u) t (inr i) = absurd i
mapped_to EntryMapping.skip t i = absurd i

-- a terminal of tokenizers is what an entry maps to
pub entry_of_terminal : (is : List WrittenItem) (t : Terminal) → Among (terminals_of_items is) t
    → (e : InternEntry) × Among (entries_of_items is) e × (e.mapping ≡ EntryMapping.terminal t)
entry_of_terminal is t i = let u = among_flat_map terminals_of_item is t i in go u.0 u.1 u.2
  where
    go : (x : WrittenItem) → Among is x → Among (terminals_of_item x) t
        → (e : InternEntry) × Among (entries_of_items is) e × (e.mapping ≡ EntryMapping.terminal t)
    go (WrittenItem.intern_token es) j k =
        let u = among_flat_map (λ (e : InternEntry). terminal_of_mapping e.mapping) es t k in
        (u.0, flat_map_among entries_of_item is (WrittenItem.intern_token es) u.0 j u.1, mapped_to u.0.mapping t u.2)
    go (WrittenItem.nonterminal r) j k = absurd k
    go (WrittenItem.match_token groups p) j k = absurd k
    go (WrittenItem.extern_token block) j k = absurd k
    go (WrittenItem.import text) j k = absurd k

-- what an entry maps to is a terminal of tokenizers
pub terminal_of_entry : (is : List WrittenItem) (e : InternEntry) (t : Terminal) → Among (entries_of_items is) e
    → e.mapping ≡ EntryMapping.terminal t → Among (terminals_of_items is) t
terminal_of_entry is e t i m = let u = among_flat_map entries_of_item is e i in go u.0 u.1 u.2
  where
    go : (x : WrittenItem) → Among is x → Among (entries_of_item x) e → Among (terminals_of_items is) t
    go (WrittenItem.intern_token es) j k =
        flat_map_among terminals_of_item is (WrittenItem.intern_token es) t j
        (flat_map_among (λ (d : InternEntry). terminal_of_mapping d.mapping) es e t k
        (subst (λ (n : EntryMapping). Among (terminal_of_mapping n) t) (sym m) (inl refl)))
    go (WrittenItem.nonterminal r) j k = absurd k
    go (WrittenItem.match_token groups p) j k = absurd k
    go (WrittenItem.extern_token block) j k = absurd k
    go (WrittenItem.import text) j k = absurd k

-- a program's entry that is seen to map to a terminal maps to one of the program
pub mapping_from : (m : MatchMapping) (t : Terminal) → entry_mapping_view m ≡ EntryMapping.terminal t
    → (u : TerminalString) × (terminal_view u ≡ t)
mapping_from (maps.Terminal u) t e = (u, (let same : terminal_view u ≡ t = cc in same))
mapping_from maps.Skip t e = absurd (let wrong : ⊥ = cc in wrong)

-- where no tokenizer stands, one that is put behind is the first
pub first_behind : (is : List WrittenItem) (es : List InternEntry)
    → ((ds : List InternEntry) → Among is (WrittenItem.intern_token ds) → ⊥)
    → first_entries (is ++ WrittenItem.intern_token es ∷ []) ≡ es
first_behind [] es none = refl
first_behind (WrittenItem.intern_token ds ∷ is) es none = absurd (none ds (inl refl))
first_behind (WrittenItem.nonterminal r ∷ is) es none = first_behind is es (λ ds i. none ds (inr i))
first_behind (WrittenItem.match_token groups p ∷ is) es none = first_behind is es (λ ds i. none ds (inr i))
first_behind (WrittenItem.extern_token block ∷ is) es none = first_behind is es (λ ds i. none ds (inr i))
first_behind (WrittenItem.import text ∷ is) es none = first_behind is es (λ ds i. none ds (inr i))

-- and its entries are all
pub entries_behind : (is : List WrittenItem) (es : List InternEntry)
    → ((ds : List InternEntry) → Among is (WrittenItem.intern_token ds) → ⊥)
    → entries_of_items (is ++ WrittenItem.intern_token es ∷ []) ≡ es
entries_behind [] es none = append-nil es
entries_behind (WrittenItem.intern_token ds ∷ is) es none = absurd (none ds (inl refl))
entries_behind (WrittenItem.nonterminal r ∷ is) es none = entries_behind is es (λ ds i. none ds (inr i))
entries_behind (WrittenItem.match_token groups p ∷ is) es none = entries_behind is es (λ ds i. none ds (inr i))
entries_behind (WrittenItem.extern_token block ∷ is) es none = entries_behind is es (λ ds i. none ds (inr i))
entries_behind (WrittenItem.import text ∷ is) es none = entries_behind is es (λ ds i. none ds (inr i))
