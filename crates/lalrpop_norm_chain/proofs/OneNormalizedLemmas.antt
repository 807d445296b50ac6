-- Two normalized grammars of one written grammar whose repeats, groups and lookarounds stand at the same places have the same parts; for
-- that law.
use Rattle.std.proofs.Common.{◌≡◌, ◌∙◌, ◌⊎◌, ℕ, List, [], ◌∷◌, refl, ap, ap₂, sym, subst, inl, inr}
use Rattle.std.proofs.Common.{Bool, arith}
use Rattle.std.specs.Prelude.{◌++◌, Option, Some, None, map, slice_get}
use Rattle.std.proofs.lemmas.Option.{slice_get_within}
use Rattle.lalrpop_grammar_symbols.specs.Symbols.{Closed, Closeds, Terminal, Text, TextSpan}
use Rattle.lalrpop_grammar_symbols.specs.Views.{terminal_view}
use Rattle.lalrpop_grammar_symbols.specs.declared.terminal.TerminalString.{TerminalString}
use Rattle.lalrpop_grammar.specs.WrittenGrammar.{Action, Attr, Grammar, InternEntry, Origin}
use Rattle.lalrpop_grammar.specs.declared.types.type_repr.TypeRepr.{TypeRepr}
use Rattle.lalrpop_grammar_language.specs.Among.{Among}
use Rattle.lalrpop_grammar_language.specs.Enabled.{EnabledGrammar, EnabledRule, IsRule, enabled_grammar}
use Rattle.lalrpop_grammar_language.specs.Levels.{loosest}
use Rattle.lalrpop_grammar_language.specs.Expansion.{GrammarSymbol, InExpansion, Nonterminal, RightSide, WrittenLabel}
use Rattle.lalrpop_grammar_language.proofs.AmongLemmas.{map_among}
use Rattle.lalrpop_grammar_language.proofs.OrderLemmas.{among_parts}
use Rattle.lalrpop_grammar_language.proofs.StepLemmas.{among_left, among_right}
use Rattle.lalrpop_grammar_language.proofs.PlaceLemmas.{among_map}
use Rattle.lalrpop_grammar_repr.specs.Maps.{at_name, at_terminal}
use Rattle.lalrpop_grammar_repr.specs.declared.action.ActionFnDefn.{ActionFnDefn}
use Rattle.lalrpop_norm_theory.specs.Keys.{leveled_key_text}
use Rattle.lalrpop_norm_theory.specs.NamesByUse.{AreNumberedByUse, IsNamingByUse, texts_of_rules, tighter_keys}
use Rattle.lalrpop_norm_theory.specs.Same.{rename_side}
use Rattle.lalrpop_norm_theory.specs.Productions.{AreProductions, NamedProduction, StandsForLabel}
use Rattle.lalrpop_norm_theory.specs.Types.{IsGrounded, text_type}
use Rattle.lalrpop_norm_theory.specs.UsedKeys.{AreKeysByUse, written_keys}
use Rattle.lalrpop_norm_theory.proofs.NamesByUseLemmas.{IsWrittenRule, name_of_key, names_one, numbered_one, written_or_tighter}
use Rattle.lalrpop_norm_theory.proofs.UsedKeyLemmas.{keys_all, keys_one_order}
use Rattle.lalrpop_norm_token_check.specs.Blocks.{block_groups}
use Rattle.lalrpop_norm_token_check.specs.Entries.{tokenizer_entries}
use Rattle.lalrpop_norm_keys.specs.KeyPlaces.{IsShapeKey}
use Rattle.lalrpop_norm_tyinfer.specs.GroundViews.{type_repr_view}
use Rattle.lalrpop_norm_tyinfer.specs.TypeFaults.{nonterminal_of}
use Rattle.lalrpop_norm_lower.specs.Definitions.{definition_of}
use Rattle.lalrpop_norm_lower.specs.NumberOrders.{AreNumberedAlong}
use Rattle.lalrpop_norm_chain.specs.Lowered.{IsTerminalOf, LoweredGrammar}
use Rattle.lalrpop_norm_chain.specs.Normalized.{IsNormalized}
use Rattle.lalrpop_norm_chain.specs.OneNormalized.{HaveSameParts, NamesOfNormalizedAreOne, NormalizedAreOne, StandAlike}
use Rattle.lalrpop_norm_chain.specs.OwnAttributes.{HasOwnAttributes}
use Rattle.lalrpop_norm_chain.specs.Spans.{HasOwnSpan}
use Rattle.lalrpop_norm_chain.specs.ActionOrders.{started_names}
use Rattle.lalrpop_norm_chain.proofs.MadeLemmas.{one_value, some_there}
use Rattle.lalrpop_norm_chain.proofs.OneActionLemmas.{productions_do_one}
use Rattle.lalrpop_norm_chain.proofs.OnePlaceLemmas.{IsNode, called_rule, error_untyped, expansion_node, faulty_untyped}
use Rattle.lalrpop_norm_chain.proofs.OnePlaceLemmas.{one_choice_span, one_rule_attributes, one_rule_span}
use Rattle.lalrpop_norm_chain.proofs.ProductionNumberLemmas.{origin_too, same_list, taken, there_too}
use Rattle.lalrpop_norm_chain.proofs.StartedNameLemmas.{rule_of_start, side_reached, start_listed, starts_in}
use Rattle.lalrpop_norm_chain.proofs.TokenFaultLemmas.{one_list}
use Rattle.lalrpop_norm_chain.proofs.TypeViewLemmas.{one_type}

-- two options that hold the same are equal
same_option : {A : Type 0} (a b : Option A) → ((x : A) → a ≡ Some x → b ≡ Some x) → ((x : A) → b ≡ Some x → a ≡ Some x) → a ≡ b
same_option (Some x) b to from = sym (to x refl)
same_option None (Some y) to from = from y refl
same_option None None to from = refl

same_names : {A : Type 0} (f k : A → Text) (xs : List A) → ((x : A) → Among xs x → f x ≡ k x) → map f xs ≡ map k xs
same_names f k [] same = refl
same_names f k (x ∷ xs) same =
    ap₂ (λ (n : Text) (l : List Text). n ∷ l) (same x (inl refl)) (same_names f k xs (λ y i. same y (inr i)))

module _ (g : EnabledGrammar) where
  -- under names that agree on the expansion the same are productions

  module _ (f k : Nonterminal → Text) (same : (x : Nonterminal) → InExpansion g x → f x ≡ k x) where
    same_side : (side : RightSide) → ((y : Nonterminal) → Among side (GrammarSymbol.nonterminal y) → InExpansion g y)
        → rename_side f side ≡ rename_side k side
    same_side [] there = refl
    same_side (GrammarSymbol.terminal t ∷ side) there =
        ap (λ (l : List (GrammarSymbol Text)). GrammarSymbol.terminal t ∷ l) (same_side side (λ y i. there y (inr i)))
    same_side (GrammarSymbol.nonterminal x ∷ side) there =
        ap₂ (λ (n : Text) (l : List (GrammarSymbol Text)). GrammarSymbol.nonterminal n ∷ l) (same x (there x (inl refl)))
        (same_side side (λ y i. there y (inr i)))

    -- what stands for a label under the one names does under the others, where the origins tell its choice
    renamed_label : (os rs : List Origin) (p : NamedProduction) (label : WrittenLabel) (side : RightSide)
        → StandsForLabel g f os p label side → slice_get rs p.action ≡ Some label.choice → StandsForLabel g k rs p label side
    renamed_label os rs p label side s told = record {
      in_expansion = s.in_expansion;
      produced = s.produced;
      nonterminal_is = s.nonterminal_is ∙ same label.head s.in_expansion;
      symbols_are = s.symbols_are
          ∙ same_side side (λ y i. side_reached g label.head label.choice side y s.in_expansion s.produced i);
      origin_is = told;
    }

    renamed : (ps : List NamedProduction) (os : List Origin) → AreProductions g f ps os → AreProductions g k ps os
    renamed ps os a = record {
      every = λ label side i m.
          let u = a.every label side i m in (u.0, u.1, u.2, renamed_label os os u.1 label side u.3 u.3.origin_is);
      no_other = λ p i. let u = a.no_other p i in (u.0, u.1, renamed_label os os p u.0 u.1 u.2 u.2.origin_is);
      once = a.once;
      own_action = a.own_action;
      in_order = a.in_order;
      no_other_origin = a.no_other_origin;
    }

  -- names by use name each key of the list alike

  module _ (single : (r : EnabledRule) → Among g.rules r → IsRule g r.name r) (prefix : Text) (f k : Nonterminal → Text)
      (a : IsNamingByUse (leveled_key_text g) prefix g f) (b : IsNamingByUse (leveled_key_text g) prefix g k) where
    written_name : (x : Closed) → IsWrittenRule g x ⊎ Among (tighter_keys g) x → f (Nonterminal.closed x) ≡ k (Nonterminal.closed x)
    written_name x (inl u) =
        let r : IsRule g u.rule.name u.rule = single u.rule u.among in
        ap (name_of_key f) u.key_is ∙ a.naming.rules u.rule r u.no_macro ∙ sym (b.naming.rules u.rule r u.no_macro)
        ∙ sym (ap (name_of_key k) u.key_is)
    written_name x (inr i) =
        numbered_one (leveled_key_text g) (name_of_key f) (name_of_key k) (map (λ r. r.name) g.rules) (tighter_keys g) a.levels b.levels x i

    used_name : (others : List Closed) → AreKeysByUse g others → (x : Closed) → Among others x
        → f (Nonterminal.closed x) ≡ k (Nonterminal.closed x)
    used_name others w x i =
        let texts = texts_of_rules (leveled_key_text g) g in
        numbered_one (leveled_key_text g) (name_of_key f) (name_of_key k) texts others
        (subst (AreNumberedByUse (leveled_key_text g) (name_of_key f) texts) (keys_one_order g a.others others a.in_order w) a.numbered)
        (subst (AreNumberedByUse (leveled_key_text g) (name_of_key k) texts) (keys_one_order g b.others others b.in_order w) b.numbered)
        x i

    listed_name : (others : List Closed) → AreKeysByUse g others → (x : Closed) → Among (written_keys g ++ others) x
        → f (Nonterminal.closed x) ≡ k (Nonterminal.closed x)
    listed_name others w x i = go (among_parts (written_keys g) others x i)
      where
        go : Among (written_keys g) x ⊎ Among others x → f (Nonterminal.closed x) ≡ k (Nonterminal.closed x)
        go (inl j) = written_name x (written_or_tighter g x j)
        go (inr j) = used_name others w x j

module _ (finds : Text → Text → Option Bool) (features : List Text) (w : Grammar)
    (single : (r : EnabledRule) → Among (enabled_grammar finds features w).rules r → IsRule (enabled_grammar finds features w) r.name r)
  where
    abbrev g : EnabledGrammar
    g = enabled_grammar finds features w

    same_name : (v u : LoweredGrammar) (n : IsNormalized finds features w v) (m : IsNormalized finds features w u) (x : Nonterminal)
        → InExpansion g x → n.name_of x ≡ m.name_of x
    same_name v u n m = names_one (leveled_key_text g) w.prefix g n.name_of m.name_of single n.naming m.naming

    module _ (v u : LoweredGrammar) (n : IsNormalized finds features w v) (m : IsNormalized finds features w u)
        (alike : StandAlike finds features w v u n) where
      -- what is in the one is in the other

      renamed_back : (x : Nonterminal) → InExpansion g x → m.name_of x ≡ n.name_of x
      renamed_back x i = same_name u v m n x i

      -- actions are numbered along one order

      abbrev keys : List Closed
      keys = written_keys g ++ n.order.others

      abbrev order : List Text
      order = map (λ (t : Text). n.name_of (Nonterminal.start t)) (started_names g)
          ++ map (λ (x : Closed). n.name_of (Nonterminal.closed x)) keys

      ordered : (x : Nonterminal) → InExpansion g x → Among order (n.name_of x)
      ordered (Nonterminal.closed x) i =
          among_right (map (λ (t : Text). n.name_of (Nonterminal.start t)) (started_names g))
          (map (λ (y : Closed). n.name_of (Nonterminal.closed y)) keys) (n.name_of (Nonterminal.closed x))
          (map_among (λ (y : Closed). n.name_of (Nonterminal.closed y)) keys x (keys_all g n.order.others n.order.in_order x i))
      ordered (Nonterminal.start t) i =
          among_left (map (λ (s : Text). n.name_of (Nonterminal.start s)) (started_names g))
          (map (λ (y : Closed). n.name_of (Nonterminal.closed y)) keys) (n.name_of (Nonterminal.start t))
          (map_among (λ (s : Text). n.name_of (Nonterminal.start s)) (started_names g) t (start_listed g t i))

      same_others : m.order.others ≡ n.order.others
      same_others = keys_one_order g m.order.others n.order.others m.order.in_order n.order.in_order

      key_name : (x : Closed) → Among keys x → m.name_of (Nonterminal.closed x) ≡ n.name_of (Nonterminal.closed x)
      key_name x i = listed_name g single w.prefix m.name_of n.name_of m.naming n.naming n.order.others n.order.in_order x i

      along_too : AreNumberedAlong order u.productions
      along_too =
          let starts_same : map (λ (t : Text). m.name_of (Nonterminal.start t)) (started_names g)
          ≡ map (λ (t : Text). n.name_of (Nonterminal.start t)) (started_names g) =
          same_names (λ (t : Text). m.name_of (Nonterminal.start t)) (λ (t : Text). n.name_of (Nonterminal.start t)) (started_names g)
          (λ t i. renamed_back (Nonterminal.start t) (starts_in g (λ r k e. single r k) t i)) in
          let keys_same : map (λ (x : Closed). m.name_of (Nonterminal.closed x)) (written_keys g ++ m.order.others)
          ≡ map (λ (x : Closed). n.name_of (Nonterminal.closed x)) keys =
          ap (λ (l : List Closed). map (λ (x : Closed). m.name_of (Nonterminal.closed x)) (written_keys g ++ l)) same_others
          ∙ same_names (λ (x : Closed). m.name_of (Nonterminal.closed x)) (λ (x : Closed). n.name_of (Nonterminal.closed x)) keys key_name
          in
          subst (λ (l : List Text). AreNumberedAlong l u.productions) (ap₂ ◌++◌ starts_same keys_same) m.order.numbered

      others : AreProductions g n.name_of u.productions u.origins
      others = renamed g m.name_of n.name_of renamed_back u.productions u.origins m.productions

      production_there : (p : NamedProduction) → Among v.productions p → Among u.productions p
      production_there p i =
          (there_too g n.name_of order ordered v.productions u.productions v.origins u.origins n.productions others n.order.numbered along_too
          p i).0

      origin_there : (k : ℕ) (o : Origin) → slice_get v.origins k ≡ Some o → slice_get u.origins k ≡ Some o
      origin_there k o e =
          origin_too g n.name_of order ordered v.productions u.productions v.origins u.origins n.productions others n.order.numbered along_too
          k o e

      stands_too : (p : NamedProduction) (label : WrittenLabel) (side : RightSide)
          → StandsForLabel g n.name_of v.origins p label side → StandsForLabel g m.name_of u.origins p label side
      stands_too p label side s =
          renamed_label g n.name_of m.name_of (same_name v u n m) v.origins u.origins p label side s
          (origin_there p.action label.choice s.origin_is)

      -- names

      name_there : (t : Text) → Among v.nonterminals t → Among u.nonterminals t
      name_there t i =
          let x = (n.nonterminals t).0 i in (m.nonterminals t).1 (x.0, x.1, renamed_back x.0 x.1 ∙ x.2)

      inlined_there : (t : Text) → Among v.inlined t → Among u.inlined t
      inlined_there t i =
          let x = (n.nonterminals t).0 (n.no_other_inlined t i) in
          subst (Among u.inlined) (renamed_back x.0 x.1 ∙ x.2)
          ((m.inlined x.0 x.1).1 ((n.inlined x.0 x.1).0 (subst (Among v.inlined) (sym x.2) i)))

      start_there : (s t : Text) → Among v.starts (s, t) → Among u.starts (s, t)
      start_there s t i = (m.starts s t).1 ((n.starts s t).0 i)

      -- types

      closed_type : (x : Closed) → InExpansion g (Nonterminal.closed x)
          → at_name (nonterminal_of (n.name_of (Nonterminal.closed x))) v.types
          ≡ at_name (nonterminal_of (m.name_of (Nonterminal.closed x))) u.types
      closed_type x i =
          let a = some_there (λ (t : TypeRepr). IsGrounded g x (type_repr_view t))
          (at_name (nonterminal_of (n.name_of (Nonterminal.closed x))) v.types) (n.types.typed x i) in
          let b = some_there (λ (t : TypeRepr). IsGrounded g x (type_repr_view t))
          (at_name (nonterminal_of (m.name_of (Nonterminal.closed x))) u.types) (m.types.typed x i) in
          let same : a.0 ≡ b.0 = one_type a.0 b.0 (n.types.once x (type_repr_view a.0) (type_repr_view b.0) i a.2 b.2) in
          a.1 ∙ ap Some same ∙ sym b.1

      type_of : (x : Nonterminal) → InExpansion g x
          → at_name (nonterminal_of (n.name_of x)) v.types ≡ at_name (nonterminal_of (m.name_of x)) u.types
      type_of (Nonterminal.closed x) i = closed_type x i
      type_of (Nonterminal.start t) i =
          let r = rule_of_start g t i in
          n.types.starts t r.0 i r.1 ∙ closed_type (Closed.call t Closeds.none (loosest r.0)) r.2 ∙ sym (m.types.starts t r.0 i r.1)

      type_at : (x : Nonterminal) → InExpansion g x
          → at_name (nonterminal_of (n.name_of x)) v.types ≡ at_name (nonterminal_of (n.name_of x)) u.types
      type_at x i = type_of x i ∙ ap (λ (t : Text). at_name (nonterminal_of t) u.types) (renamed_back x i)

      type_there : (t : Text) (y : TypeRepr) → at_name (nonterminal_of t) v.types ≡ Some y
          → at_name (nonterminal_of t) u.types ≡ Some y
      type_there t y e =
          let x = n.types.no_other t y e in
          sym (ap (λ (s : Text). at_name (nonterminal_of s) u.types) x.2) ∙ sym (type_at x.0 x.1)
          ∙ ap (λ (s : Text). at_name (nonterminal_of s) v.types) x.2 ∙ e

      -- definitions

      definition_at : (p : NamedProduction) → Among v.productions p
          → slice_get v.definitions p.action ≡ slice_get u.definitions p.action
      definition_at p i =
          let s = n.productions.no_other p i in
          let t = stands_too p s.0 s.1 s.2 in
          let a = n.actions.defined p s.0 s.1 i s.2 in
          let b = m.actions.defined p s.0 s.1 (production_there p i) t in
          let same : a.0 ≡ b.0 =
          productions_do_one finds features w s.0.head s.0.choice s.1 a.0 b.0 s.2.produced a.1 b.1 in
          let y = some_there (λ (z : TypeRepr). slice_get v.definitions p.action ≡ Some (definition_of z a.0))
          (at_name (nonterminal_of p.nonterminal) v.types) a.2 in
          let z = some_there (λ (z : TypeRepr). slice_get u.definitions p.action ≡ Some (definition_of z b.0))
          (at_name (nonterminal_of p.nonterminal) u.types) b.2 in
          let types_same : y.0 ≡ z.0 =
          one_value y.0 z.0 (at_name (nonterminal_of p.nonterminal) u.types) (type_there p.nonterminal y.0 y.1) z.1 in
          y.2 ∙ ap₂ (λ (c : TypeRepr) (d : Action). Some (definition_of c d)) types_same same ∙ sym z.2

      definition_there : (k : ℕ) (d : ActionFnDefn) → slice_get v.definitions k ≡ Some d → slice_get u.definitions k ≡ Some d
      definition_there k d e =
          let within = slice_get_within v.definitions k d e in
          let many = n.actions.no_other in
          let origins_many = n.productions.no_other_origin in
          let p = taken g n.name_of v.productions v.origins n.productions k (omega (arith, within, many, origins_many)) in
          ap (slice_get u.definitions) (sym p.2) ∙ sym (definition_at p.0 p.1) ∙ ap (slice_get v.definitions) p.2 ∙ e

      -- entries and terminals

      entries_same : v.entries ≡ u.entries
      entries_same =
          n.entries.listed.entries_are
          ∙ ap (tokenizer_entries (block_groups w.items))
          (one_list g n.entries.listed.used m.entries.listed.used n.entries.listed.are_used m.entries.listed.are_used)
          ∙ sym m.entries.listed.entries_are

      terminal_used : (t : Terminal) → IsTerminalOf v t → IsTerminalOf u t
      terminal_used t (inl p) = inl (p.0, production_there p.0 p.1, p.2)
      terminal_used t (inr e) = inr (e.0, subst (λ (es : List InternEntry). Among es e.0) entries_same e.1, e.2)

      terminal_there : (t : Terminal) → Among v.terminals t → Among u.terminals t
      terminal_there t i = (m.terminals t).1 (terminal_used t ((n.terminals t).0 i))

      terminal_type_there : (t : TerminalString) (y : TypeRepr) → at_terminal t v.terminal_types ≡ Some y
          → at_terminal t u.terminal_types ≡ Some y
      terminal_type_there t y e =
          let i = n.terminal_types.only t y e in
          let a = some_there (λ (x : TypeRepr). type_repr_view x ≡ text_type) (at_terminal t v.terminal_types)
          (n.terminal_types.typed t i) in
          let b = some_there (λ (x : TypeRepr). type_repr_view x ≡ text_type) (at_terminal t u.terminal_types)
          (m.terminal_types.typed t (terminal_there (terminal_view t) i)) in
          let first : a.0 ≡ y = one_value a.0 y (at_terminal t v.terminal_types) a.1 e in
          let second : a.0 ≡ b.0 = one_type a.0 b.0 (a.2 ∙ sym b.2) in
          b.1 ∙ ap Some (sym second ∙ first)

      -- places

      -- a call has a type, so it is of a rule
      rule_called : (t : Text) (args : Closeds) (level : Option ℕ) → InExpansion g (Nonterminal.closed (Closed.call t args level))
          → (r : EnabledRule) × IsRule g t r
      rule_called t args level i =
          let a = some_there (λ (z : TypeRepr). IsGrounded g (Closed.call t args level) (type_repr_view z))
          (at_name (nonterminal_of (n.name_of (Nonterminal.closed (Closed.call t args level)))) v.types)
          (n.types.typed (Closed.call t args level) i) in
          called_rule g t args level (type_repr_view a.0) a.2

      -- what is no call, repeat, group or lookaround has none

      no_error : InExpansion g (Nonterminal.closed (Closed.terminal Terminal.error)) → ⊥
      no_error i =
          let a = some_there (λ (t : TypeRepr). IsGrounded g (Closed.terminal Terminal.error) (type_repr_view t))
          (at_name (nonterminal_of (n.name_of (Nonterminal.closed (Closed.terminal Terminal.error)))) v.types)
          (n.types.typed (Closed.terminal Terminal.error) i) in
          error_untyped g (type_repr_view a.0) a.2

      no_faulty : InExpansion g (Nonterminal.closed Closed.faulty) → ⊥
      no_faulty i =
          let a = some_there (λ (t : TypeRepr). IsGrounded g Closed.faulty (type_repr_view t))
          (at_name (nonterminal_of (n.name_of (Nonterminal.closed Closed.faulty))) v.types) (n.types.typed Closed.faulty i) in
          faulty_untyped g (type_repr_view a.0) a.2

      alike_at : (x : Closed) (p q : TextSpan) → IsShapeKey x → InExpansion g (Nonterminal.closed x)
          → Among v.places (n.name_of (Nonterminal.closed x), p) → Among u.places (m.name_of (Nonterminal.closed x), q) → p ≡ q
      alike_at x p q shape i j k =
          alike x p q shape i j (subst (λ (t : Text). Among u.places (t, q)) (renamed_back (Nonterminal.closed x) i) k)

      closed_span : (x : Closed) (p q : TextSpan) → IsNode x → InExpansion g (Nonterminal.closed x)
          → HasOwnSpan finds features w (Nonterminal.closed x) p → HasOwnSpan finds features w (Nonterminal.closed x) q
          → Among v.places (n.name_of (Nonterminal.closed x), p) → Among u.places (m.name_of (Nonterminal.closed x), q) → p ≡ q
      closed_span (Closed.terminal (Terminal.quoted t)) p q node i h k j l = absurd node
      closed_span (Closed.terminal (Terminal.regex t)) p q node i h k j l = absurd node
      closed_span (Closed.terminal (Terminal.bare t)) p q node i h k j l = absurd node
      closed_span (Closed.terminal Terminal.error) p q node i h k j l = absurd (no_error i)
      closed_span (Closed.call t args level) p q node i h k j l =
          let r = rule_called t args level i in one_rule_span finds features w t r.0 r.1 p q h k
      closed_span (Closed.repeat op x) p q node i h k j l = alike_at (Closed.repeat op x) p q tt i j l
      closed_span (Closed.group xs) p q node i h k j l = alike_at (Closed.group xs) p q tt i j l
      closed_span (Closed.choose x) p q node i h k j l = absurd node
      closed_span (Closed.name a t x) p q node i h k j l = absurd node
      closed_span Closed.lookahead p q node i h k j l = alike_at Closed.lookahead p q tt i j l
      closed_span Closed.lookbehind p q node i h k j l = alike_at Closed.lookbehind p q tt i j l
      closed_span Closed.faulty p q node i h k j l = absurd (no_faulty i)

      own_span : (x : Nonterminal) (p q : TextSpan) → InExpansion g x → Among v.places (n.name_of x, p)
          → Among u.places (m.name_of x, q) → p ≡ q
      own_span (Nonterminal.start t) p q i j k =
          let r = rule_of_start g t i in
          one_rule_span finds features w t r.0 r.1 p q (n.spans.places (Nonterminal.start t) p i j)
          (m.spans.places (Nonterminal.start t) q i k)
      own_span (Nonterminal.closed x) p q i j k =
          closed_span x p q (expansion_node g x i) i (n.spans.places (Nonterminal.closed x) p i j)
          (m.spans.places (Nonterminal.closed x) q i k) j k

      -- each nonterminal has a place
      place_of : (l : LoweredGrammar) → map (λ (e : Text × TextSpan). e.0) l.places ≡ l.nonterminals → (t : Text)
          → Among l.nonterminals t → (s : TextSpan) × Among l.places (t, s)
      place_of l each t i =
          let e = among_map (λ (e : Text × TextSpan). e.0) l.places t (subst (λ (ts : List Text). Among ts t) (sym each) i) in
          (e.0.1, subst (λ (x : Text). Among l.places (x, e.0.1)) e.2 e.1)

      place_there : (t : Text) (s : TextSpan) → Among v.places (t, s) → Among u.places (t, s)
      place_there t s i =
          let named = subst (λ (ts : List Text). Among ts t) n.spans.each_place
          (map_among (λ (e : Text × TextSpan). e.0) v.places (t, s) i) in
          let x = (n.nonterminals t).0 named in
          let other = place_of u m.spans.each_place t (name_there t named) in
          let same : s ≡ other.0 =
          own_span x.0 s other.0 x.1 (subst (λ (y : Text). Among v.places (y, s)) (sym x.2) i)
          (subst (λ (y : Text). Among u.places (y, other.0)) (sym (renamed_back x.0 x.1 ∙ x.2)) other.1) in
          subst (λ (z : TextSpan). Among u.places (t, z)) (sym same) other.1

      -- attributes

      one_own : (x : Nonterminal) (p : TextSpan) (as_ bs : List Attr) → InExpansion g x → HasOwnAttributes features w x p as_
          → HasOwnAttributes features w x p bs → as_ ≡ bs
      one_own (Nonterminal.start t) p as_ bs i h k = h ∙ sym k
      one_own (Nonterminal.closed x) p as_ bs i h k = of_closed x (expansion_node g x i) i h k
        where
          of_closed : (y : Closed) → IsNode y → InExpansion g (Nonterminal.closed y)
              → HasOwnAttributes features w (Nonterminal.closed y) p as_ → HasOwnAttributes features w (Nonterminal.closed y) p bs
              → as_ ≡ bs
          of_closed (Closed.terminal (Terminal.quoted t)) node j d e = absurd node
          of_closed (Closed.terminal (Terminal.regex t)) node j d e = absurd node
          of_closed (Closed.terminal (Terminal.bare t)) node j d e = absurd node
          of_closed (Closed.terminal Terminal.error) node j d e = absurd (no_error j)
          of_closed (Closed.call t args level) node j d e =
              let r = rule_called t args level j in one_rule_attributes finds features w t r.0 r.1 as_ bs d e
          of_closed (Closed.repeat op y) node j d e = d ∙ sym e
          of_closed (Closed.group ys) node j d e = d ∙ sym e
          of_closed (Closed.choose y) node j d e = absurd node
          of_closed (Closed.name a t y) node j d e = absurd node
          of_closed Closed.lookahead node j d e = d ∙ sym e
          of_closed Closed.lookbehind node j d e = d ∙ sym e
          of_closed Closed.faulty node j d e = absurd (no_faulty j)

      attributes_there : (t : Text) (as_ : List Attr) → Among v.attributes (t, as_) → Among u.attributes (t, as_)
      attributes_there t as_ i =
          let there = subst (λ (ts : List Text). Among ts t) n.attributes.each
          (map_among (λ (e : Text × List Attr). e.0) v.attributes (t, as_) i) in
          let x = (n.nonterminals t).0 there in
          let own = place_of v n.spans.each_place t there in
          let e = among_map (λ (e : Text × List Attr). e.0) u.attributes t
          (subst (λ (ts : List Text). Among ts t) (sym m.attributes.each) (name_there t there)) in
          let other = subst (λ (s : Text). Among u.attributes (s, e.0.1)) e.2 e.1 in
          let back : t ≡ m.name_of x.0 = sym (renamed_back x.0 x.1 ∙ x.2) in
          let same : as_ ≡ e.0.1 =
          one_own x.0 own.0 as_ e.0.1 x.1
          (n.attributes.own x.0 own.0 as_ x.1 (subst (λ (s : Text). Among v.places (s, own.0)) (sym x.2) own.1)
          (subst (λ (s : Text). Among v.attributes (s, as_)) (sym x.2) i))
          (m.attributes.own x.0 own.0 e.0.1 x.1 (subst (λ (s : Text). Among u.places (s, own.0)) back (place_there t own.0 own.1))
          (subst (λ (s : Text). Among u.attributes (s, e.0.1)) back other)) in
          subst (λ (l : List Attr). Among u.attributes (t, l)) (sym same) other

      span_there : (p : NamedProduction) (s : TextSpan) → Among v.spans (p, s) → Among u.spans (p, s)
      span_there p s i =
          let there = subst (λ (ps : List NamedProduction). Among ps p) n.spans.each
          (map_among (λ (e : NamedProduction × TextSpan). e.0) v.spans (p, s) i) in
          let e = among_map (λ (e : NamedProduction × TextSpan). e.0) u.spans p
          (subst (λ (ps : List NamedProduction). Among ps p) (sym m.spans.each) (production_there p there)) in
          let other = subst (λ (q : NamedProduction). Among u.spans (q, e.0.1)) e.2 e.1 in
          let l = n.productions.no_other p there in
          let own = place_of v n.spans.each_place p.nonterminal
          ((n.nonterminals p.nonterminal).1 (l.0.head, l.2.in_expansion, sym l.2.nonterminal_is)) in
          let same : s ≡ e.0.1 =
          one_choice_span finds features w l.0.head l.0.choice l.1 own.0 s e.0.1 l.2.produced
          (n.spans.stands p l.0 l.1 s own.0 i l.2 own.1)
          (m.spans.stands p l.0 l.1 e.0.1 own.0 other (stands_too p l.0 l.1 l.2) (place_there p.nonterminal own.0 own.1)) in
          subst (λ (z : TextSpan). Among u.spans (p, z)) (sym same) other

    turned : (v u : LoweredGrammar) (n : IsNormalized finds features w v) (m : IsNormalized finds features w u)
        → StandAlike finds features w v u n → StandAlike finds features w u v m
    turned v u n m alike x p q shape i j k =
        let back : m.name_of (Nonterminal.closed x) ≡ n.name_of (Nonterminal.closed x) = same_name u v m n (Nonterminal.closed x) i in
        sym (alike x q p shape i (subst (λ (t : Text). Among v.places (t, q)) back k) (subst (λ (t : Text). Among u.places (t, p)) back j))

    -- so each has what the other has
    same_parts : (v u : LoweredGrammar) (n : IsNormalized finds features w v) (m : IsNormalized finds features w u)
        → StandAlike finds features w v u n → HaveSameParts v u
    same_parts v u n m a =
        let b = turned v u n m a in
        record {
          prefix = n.prefix ∙ sym m.prefix;
          productions = λ p. (λ i. production_there v u n m a p i, λ i. production_there u v m n b p i);
          spans = λ p s. (λ i. span_there v u n m a p s i, λ i. span_there u v m n b p s i);
          origins = same_list v.origins u.origins (λ k o e. origin_there v u n m a k o e) (λ k o e. origin_there u v m n b k o e);
          definitions = same_list v.definitions u.definitions (λ k d e. definition_there v u n m a k d e)
              (λ k d e. definition_there u v m n b k d e);
          nonterminals = λ t. (λ i. name_there v u n m a t i, λ i. name_there u v m n b t i);
          places = λ t s. (λ i. place_there v u n m a t s i, λ i. place_there u v m n b t s i);
          attributes = λ t as_. (λ i. attributes_there v u n m a t as_ i, λ i. attributes_there u v m n b t as_ i);
          starts = λ s t. (λ i. start_there v u n m a s t i, λ i. start_there u v m n b s t i);
          inlined = λ t. (λ i. inlined_there v u n m a t i, λ i. inlined_there u v m n b t i);
          terminals = λ t. (λ i. terminal_there v u n m a t i, λ i. terminal_there u v m n b t i);
          types = λ t. same_option (at_name (nonterminal_of t) v.types) (at_name (nonterminal_of t) u.types)
              (λ y e. type_there v u n m a t y e) (λ y e. type_there u v m n b t y e);
          terminal_types = λ t. same_option (at_terminal t v.terminal_types) (at_terminal t u.terminal_types)
              (λ y e. terminal_type_there v u n m a t y e) (λ y e. terminal_type_there u v m n b t y e);
          lalr = n.lalr ∙ sym m.lalr;
          entries = entries_same v u n m a;
        }

-- the names of normalized grammars are one
pub one_naming : NamesOfNormalizedAreOne
one_naming finds features w v u single n m x i = same_name finds features w single v u n m x i

-- and those that stand alike have the same parts
pub one_normalized : NormalizedAreOne
one_normalized finds features w v u single n m alike = same_parts finds features w single v u n m alike
