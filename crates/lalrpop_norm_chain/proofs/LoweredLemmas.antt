-- What lowering promises of an expanded grammar is what the chain of passes asks of it; for the law of lowering in the chain.
use Rattle.std.proofs.Common.{◌≡◌, zero, suc, List, refl, ap, sym, ◌∙◌, subst, true, inl, inr, ◌⊎◌}
use Rattle.std.proofs.Common.{Bool, ℕ}
use Rattle.std.specs.Prelude.{Option, Some, IsSomeAnd, ◌↔◌, ◌++◌, filter, flat_map, map, option_map, slice_get}
use Rattle.std.proofs.lemmas.Bool.{and_parts}
use Rattle.std.proofs.lemmas.List.{length-map}
use Rattle.std.proofs.lemmas.Option.{slice_get-map}
use Rattle.lalrpop_grammar_symbols.specs.Symbols.{Text, TextSpan, Terminal}
use Rattle.lalrpop_grammar_symbols.specs.Views.{span_view, terminal_view}
use Rattle.lalrpop_grammar_symbols.specs.contracts.names.NonterminalStringOrd.TheImpl as names
use Rattle.lalrpop_grammar_symbols.specs.declared.names.NonterminalString.{NonterminalString}
use Rattle.lalrpop_grammar_symbols.specs.declared.terminal.TerminalString.{TerminalString}
use Rattle.lalrpop_grammar.specs.Views.{grammar_view, intern_entry_view, origin_view}
use Rattle.lalrpop_grammar.specs.WrittenGrammar.{Action, Alternative, Grammar, InternEntry, Origin, Rule, rules_of}
use Rattle.lalrpop_grammar.specs.declared.grammar.Grammar as program
use Rattle.lalrpop_grammar_language.specs.Among.{Among}
use Rattle.lalrpop_grammar_language.specs.Enabled.{EnabledGrammar, EnabledRule, IsRule, choice_of}
use Rattle.lalrpop_grammar_language.specs.Expansion.{GrammarSymbol, InExpansion, Nonterminal, RightSide, WrittenLabel}
use Rattle.lalrpop_grammar_language.specs.Starts.{has_none}
use Rattle.lalrpop_grammar_language.proofs.PlaceLemmas.{among_filter, among_map}
use Rattle.lalrpop_grammar_repr.specs.Maps.{at_name}
use Rattle.lalrpop_grammar_repr.specs.declared.production.NonterminalData.{NonterminalData}
use Rattle.lalrpop_grammar_repr.specs.declared.production.Production.{Production}
use Rattle.lalrpop_grammar_repr.specs.declared.types.Types.{Types}
use Rattle.lalrpop_grammar.specs.declared.types.type_repr.TypeRepr.{TypeRepr}
use Rattle.lalrpop_norm_theory.specs.Between.{grammar_between, rule_between, with_origins}
use Rattle.lalrpop_norm_theory.specs.Inlined.{IsInlined}
use Rattle.lalrpop_norm_theory.specs.Productions.{NamedProduction, StandsForLabel}
use Rattle.lalrpop_norm_theory.specs.Rows.{Row}
use Rattle.lalrpop_grammar_language.proofs.AmongLemmas.{flat_map_among}
use Rattle.lalrpop_grammar_language.proofs.AmongLemmas.{map_among}
use Rattle.lalrpop_grammar_language.proofs.AmongLemmas.{among_flat_map}
use Rattle.lalrpop_grammar_language.proofs.StepLemmas.{among_right}
use Rattle.lalrpop_grammar_language.proofs.OrderLemmas.{among_parts}
use Rattle.lalrpop_norm_theory.proofs.LevelLemmas.{keeps}
use Rattle.lalrpop_norm_theory.proofs.LevelOrderLemmas.{one_rule}
use Rattle.lalrpop_norm_tyinfer.specs.TerminalTypes.{AreTerminalTypes, grammar_terminals, terminals_of_alternatives, terminals_of_items}
use Rattle.lalrpop_norm_tyinfer.specs.TerminalTypes.{terminals_of_rules, terminals_of_symbols}
use Rattle.lalrpop_norm_tyinfer.specs.TypeFaults.{nonterminal_of}
use Rattle.lalrpop_norm_lower.specs.Lowered.{IsLowerable, IsLowered, IsLoweredAlternative, IsLoweredName}
use Rattle.lalrpop_norm_lower.specs.Lowered.{IsLoweredRule, IsLoweredStart, KeepsTheRest, says_inline, start_of}
use Rattle.lalrpop_norm_lower.specs.Definitions.{definition_of}
use Rattle.lalrpop_norm_lower.specs.LoweredLists.{gets_start, rules_with_starts}
use Rattle.lalrpop_norm_lower.specs.LoweredSymbols.{lowered_name, named_production}
use Rattle.lalrpop_norm_lower.specs.LoweredSymbols.{productions_at}
use Rattle.lalrpop_norm_lower.specs.declared.lowering.Normalized.{Normalized}
use Rattle.lalrpop_norm_lower.proofs.EarlierLemmas.{among_at}
use Rattle.lalrpop_norm_lower.proofs.ExpansionRowLemmas.{alternative_row, are_expansion_rows, public_starts, rule_rows, start_row}
use Rattle.lalrpop_norm_lower.proofs.OrderLemmas.{equal_names}
use Rattle.lalrpop_norm_lower.proofs.PutLemmas.{found_among}
use Rattle.lalrpop_norm_lower.proofs.RowLemmas.{produced_by_start, rule_nonterminal, rule_there, start_there}
use Rattle.lalrpop_norm_chain.specs.Lowered.{HasDefinition, IsAlternativeSpan, IsLoweredFrom, IsRuleProduction}
use Rattle.lalrpop_norm_chain.specs.Lowered.{IsStartProduction, IsStartSpan}
use Rattle.lalrpop_norm_chain.specs.Lowered.{IsTerminalOf}
use Rattle.lalrpop_norm_chain.specs.Lowered.{LoweredGrammar, start_name}
use Rattle.lalrpop_norm_chain.specs.PremiseLaws.{entries_of_items}
use Rattle.lalrpop_norm_chain.proofs.ChainLemmas.{no_start_inside}
use Rattle.lalrpop_norm_chain.specs.LoweredViews.{HasOneTokenizer, found_entries, lowered_view, spans_at}
use Rattle.lalrpop_norm_chain.proofs.EntryLemmas.{entry_found, entry_of_terminal, first_is, found_entry, found_name, lalr_is}
use Rattle.lalrpop_norm_chain.proofs.MadeLemmas.{alternative_made, attributes_are_each, one_value, places_are_each, same_first}
use Rattle.lalrpop_norm_chain.proofs.MadeLemmas.{some_there}
use Rattle.lalrpop_norm_chain.proofs.MadeLemmas.{spans_are_each, terminal_in_side, typed_definition}
use Rattle.lalrpop_norm_chain.proofs.EntryLemmas.{mapping_from, name_found, terminal_of_entry}
use Rattle.lalrpop_norm_chain.proofs.LoweredRestLemmas.{inlined_named, rule_has, start_has, type_given}

start_is : (m k : Text) → Nonterminal.start m ≡ Nonterminal.start k → m ≡ k
start_is m k e = cc

module _ (finds : Text → Text → Option Bool) (g : program.Grammar) (types : Types) (made : Normalized)
    (l : IsLowerable finds (grammar_view g) types) (one : HasOneTokenizer (grammar_view g))
    (m : IsLowered (grammar_between finds (grammar_view g)) (grammar_view g) types made) (k : KeepsTheRest g made) where
  abbrev w : Grammar
  w = grammar_view g

  abbrev h : EnabledGrammar
  h = grammar_between finds w

  abbrev rs : List Rule
  rs = rules_of w.items

  abbrev v : LoweredGrammar
  v = lowered_view made

  abbrev nonterminals : List (NonterminalString × NonterminalData)
  nonterminals = made.grammar.nonterminals

  prefix_is : w.prefix ≡ v.prefix
  prefix_is = sym k.prefix

  between_among : (r : Rule) → Among rs r → Among h.rules (rule_between r)
  between_among r i = map_among rule_between rs r i

  -- nonterminals

  start_in : (r : Rule) → Among rs r → gets_start r ≡ true → InExpansion h (Nonterminal.start r.name)
  start_in r i e =
      start_there h l.expanded (rule_between r) (between_among r i) (and_parts r.public (has_none r.parameters) e).0

  -- what the expansion starts by is a rule that gets a start
  start_from : (n : Text) → InExpansion h (Nonterminal.start n) → (r : Rule) × Among rs r × (gets_start r ≡ true) × (r.name ≡ n)
  start_from n (zero, inl b) =
      let s = produced_by_start h l.expanded b.0 Origin.start b.1 b.3 in
      let q = among_map rule_between rs s.rule s.among in (
        q.0,
        q.1,
        public_starts finds w l.expanded l.ordered l.free_prefix q.0 q.1 (ap (λ (e : EnabledRule). e.public) q.2 ∙ s.public),
        ap (λ (e : EnabledRule). e.name) q.2 ∙ s.name_is ∙ sym (start_is n b.0 b.2),
      )
  start_from n (zero, inr b) =
      let e : Nonterminal.start n ≡ _ = b.5 in absurd (let wrong : ⊥ = cc in wrong)
  start_from n (suc j, b) = absurd (no_start_inside h b.0 b.1 b.2 n b.4 b.5)

  name_in : (n : Text) → Among v.nonterminals n → (x : Nonterminal) × InExpansion h x × (lowered_name w.prefix x ≡ n)
  name_in n i = let d = name_found nonterminals n i in go (m.nonterminals.no_other (nonterminal_of n) d.0 d.1)
    where
      go : IsLoweredName w (nonterminal_of n) → (x : Nonterminal) × InExpansion h x × (lowered_name w.prefix x ≡ n)
      go (inl r) = (
        rule_nonterminal r.0.name,
        rule_there h l.expanded (rule_between r.0) (between_among r.0 r.1),
        ap (λ (s : NonterminalString). s.0) (sym r.2),
      )
      go (inr r) = (
        Nonterminal.start r.0.name,
        start_in r.0 r.1.rule r.1.starts,
        ap (λ (s : NonterminalString). s.0) (sym r.1.name_is),
      )

  in_name : (n : Text) → (x : Nonterminal) × InExpansion h x × (lowered_name w.prefix x ≡ n) → Among v.nonterminals n
  in_name n a =
      let at = nonterminal_of (lowered_name w.prefix a.0) in
      let d = some_there (λ d. (says_inline d ≡ true) ↔ IsInlined h a.0) (at_name at nonterminals) (m.inlined a.0 a.1) in
      subst (Among v.nonterminals) a.2 (found_name nonterminals at d.0 d.1)

  -- starts

  abbrev listed : List (NonterminalString × NonterminalString)
  listed = made.grammar.start_nonterminals

  abbrev pair_of : NonterminalString × NonterminalString → Text × Text
  pair_of e = (e.0.0, e.1.0)

  listed_start : (n t : Text) → Among v.starts (n, t) → InExpansion h (Nonterminal.start n) × (t ≡ start_name v.prefix n)
  listed_start n t i =
      let u = among_map pair_of (found_entries listed) (n, t) i in
      let key : u.0.0.0 ≡ n = ap (λ (p : Text × Text). p.0) u.2 in
      let value : u.0.1.0 ≡ t = ap (λ (p : Text × Text). p.1) u.2 in
      let s = m.starts.no_other u.0.0 u.0.1 (entry_found listed u.0 u.1) in
      let own : s.0.name ≡ n = ap (λ (e : NonterminalString). e.0) (sym s.2) ∙ key in (
        subst (λ (x : Text). InExpansion h (Nonterminal.start x)) own (start_in s.0 s.1.rule s.1.starts),
        sym value ∙ ap (λ (e : NonterminalString). e.0) s.1.name_is ∙ ap (λ (x : Text). w.prefix ++ x) own
            ∙ ap (λ (p : Text). p ++ n) prefix_is,
      )

  start_listed : (n t : Text) → InExpansion h (Nonterminal.start n) → t ≡ start_name v.prefix n → Among v.starts (n, t)
  start_listed n t i e =
      let s = start_from n i in
      let there = found_entry listed (nonterminal_of s.0.name) (nonterminal_of (w.prefix ++ s.0.name)) (m.starts.every s.0 s.1 s.2) in
      let pair : (s.0.name, w.prefix ++ s.0.name) ≡ (n, t) =
      ap (λ (x : Text). (x, w.prefix ++ x)) s.3 ∙ ap (λ (x : Text). (n, x)) (ap (λ (p : Text). p ++ n) prefix_is ∙ sym e) in
      subst (Among v.starts) pair
      (map_among pair_of (found_entries listed) (nonterminal_of s.0.name, nonterminal_of (w.prefix ++ s.0.name)) there)

  -- what is inlined

  abbrev says : NonterminalString × NonterminalData → Bool
  says e = says_inline e.1

  inlined_found : (n : Text) → Among v.inlined n
      → (d : NonterminalData) × (at_name (nonterminal_of n) nonterminals ≡ Some d) × (says_inline d ≡ true)
  inlined_found n i =
      let u = among_map (λ (e : NonterminalString × NonterminalData). e.0.0) (filter says (found_entries nonterminals)) n i in
      let f = among_filter says (found_entries nonterminals) u.0 u.1 in
      (u.0.1, ap (λ (x : Text). at_name (nonterminal_of x) nonterminals) (sym u.2) ∙ entry_found nonterminals u.0 f.0, f.1)

  found_inlined : (n : Text) (d : NonterminalData) → at_name (nonterminal_of n) nonterminals ≡ Some d → says_inline d ≡ true
      → Among v.inlined n
  found_inlined n d e f =
      map_among (λ (x : NonterminalString × NonterminalData). x.0.0) (filter says (found_entries nonterminals))
      (nonterminal_of n, d)
      (keeps says (found_entries nonterminals) (nonterminal_of n, d) (found_entry nonterminals (nonterminal_of n) d e) f)

  inlined_as : (x : Nonterminal) → InExpansion h x → Among v.inlined (lowered_name w.prefix x) ↔ IsInlined h x
  inlined_as x i =
      let n = lowered_name w.prefix x in
      let d = some_there (λ d. (says_inline d ≡ true) ↔ IsInlined h x) (at_name (nonterminal_of n) nonterminals) (m.inlined x i) in (
        λ a. let u = inlined_found n a in
            d.2.0 (ap says_inline (one_value d.0 u.0 (at_name (nonterminal_of n) nonterminals) d.1 u.1) ∙ u.2),
        λ a. found_inlined n d.0 d.1 (d.2.1 a),
      )

  rule_inlined : (r : EnabledRule) → Among h.rules r → Among v.inlined r.name ↔ (r.inlined ≡ true)
  rule_inlined r i =
      let both = inlined_as (rule_nonterminal r.name) (rule_there h l.expanded r i) in (
        λ a. let u = both.0 a in ap (λ (q : EnabledRule). q.inlined) (one_rule h r.name r u.0 (l.expanded.rules r i) u.1) ∙ u.2,
        λ e. both.1 (r, l.expanded.rules r i, e),
      )

  no_start : (n : Text) → InExpansion h (Nonterminal.start n) → Among v.inlined (start_name v.prefix n) → ⊥
  no_start n i a =
      (inlined_as (Nonterminal.start n) i).0 (subst (λ (p : Text). Among v.inlined (p ++ n)) (sym prefix_is) a)

  -- entries and terminals

  entries_are : v.entries ≡ entries_of_items w.items
  entries_are = ap (map intern_entry_view) k.entries ∙ first_is g.items ∙ one

  terminal_of_rules : (t : Terminal) → Among (terminals_of_rules rs) t
      → (p : NamedProduction) × Among v.productions p × Among p.symbols (GrammarSymbol.terminal t)
  terminal_of_rules t i =
      let r = among_flat_map (λ (q : Rule). terminals_of_alternatives q.alternatives) rs t i in
      let a = among_flat_map (λ (b : Alternative). terminals_of_symbols b.expr) r.0.alternatives t r.2 in
      let d = some_there _ (at_name (nonterminal_of r.0.name) nonterminals) (m.nonterminals.rules r.0 r.1) in
      let p = alternative_made made types.nonterminal_types r.0 r.0.alternatives d.0.productions d.2.productions_are a.0 a.1 in (
        named_production p.0,
        flat_map_among productions_at nonterminals (nonterminal_of r.0.name, d.0) (named_production p.0)
            (found_among (names.ghosts).cmp equal_names nonterminals (nonterminal_of r.0.name) d.0 d.1)
            (map_among named_production d.0.productions p.0 p.1),
        subst (λ (s : List (GrammarSymbol Text)). Among s (GrammarSymbol.terminal t)) (sym p.2.symbols_are)
            (terminal_in_side a.0.expr t a.2),
      )

  terminal_used : (t : Terminal) → Among v.terminals t → IsTerminalOf v t
  terminal_used t i =
      let u = among_map terminal_view made.grammar.terminals.all t i in
      subst (IsTerminalOf v) u.2
      (go (terminal_view u.0)
      (among_parts (terminals_of_rules rs) (terminals_of_items w.items) (terminal_view u.0) ((m.terminals.members u.0).0 u.1)))
    where
      go : (s : Terminal) → Among (terminals_of_rules rs) s ⊎ Among (terminals_of_items w.items) s → IsTerminalOf v s
      go s (inl j) = inl (terminal_of_rules s j)
      go s (inr j) =
          let e = entry_of_terminal w.items s j in
          inr (e.0, subst (λ (es : List InternEntry). Among es e.0) (sym entries_are) e.1, e.2)

  used_terminal : (t : Terminal) → IsTerminalOf v t → Among v.terminals t
  used_terminal t (inl p) =
      let u = m.sides.symbols p.0 (GrammarSymbol.terminal t) p.1 p.2 in
      subst (Among v.terminals) u.1 (map_among terminal_view made.grammar.terminals.all u.0 u.2)
  used_terminal t (inr e) =
      let d = among_map intern_entry_view made.entries e.0 e.1 in
      let u = mapping_from d.0.user_name t (ap (λ (x : InternEntry). x.mapping) d.2 ∙ e.2) in
      let there : Among (terminals_of_items w.items) t =
      terminal_of_entry w.items e.0 t (subst (λ (es : List InternEntry). Among es e.0) entries_are e.1) e.2 in
      subst (Among v.terminals) u.1
      (map_among terminal_view made.grammar.terminals.all u.0
      ((m.terminals.members u.0).1
      (subst (λ (s : Terminal). Among (terminals_of_rules rs ++ terminals_of_items w.items) s) (sym u.1)
      (among_right (terminals_of_rules rs) (terminals_of_items w.items) t there))))

  -- types

  terminals_typed : AreTerminalTypes v.terminals v.terminal_types
  terminals_typed =
      subst (λ (table : List (TerminalString × TypeRepr)). AreTerminalTypes v.terminals table) (sym m.types_are.terminals) (record {
        typed = λ t i.
            let u = among_map terminal_view made.grammar.terminals.all (terminal_view t) i in
            l.terminals.typed t (subst (Among (grammar_terminals w)) u.2 ((m.terminals.members u.0).0 u.1));
        only = λ t u e. map_among terminal_view made.grammar.terminals.all t ((m.terminals.members t).1 (l.terminals.only t u e));
      })

  rule_type : (r : Rule) → Among rs r
      → at_name (nonterminal_of r.name) v.types ≡ at_name (nonterminal_of r.name) types.nonterminal_types
  rule_type r i =
      m.types_are.others (nonterminal_of r.name)
      (λ q s. l.free_prefix r q.name i (ap (λ (e : NonterminalString). e.0) s.name_is))

  between_type : (r : EnabledRule) → Among h.rules r
      → at_name (nonterminal_of r.name) v.types ≡ at_name (nonterminal_of r.name) types.nonterminal_types
  between_type r i =
      let q = among_map rule_between rs r i in
      subst (λ (e : EnabledRule). at_name (nonterminal_of e.name) v.types ≡ at_name (nonterminal_of e.name) types.nonterminal_types)
      q.2 (rule_type q.0 q.1)

  start_type : (n : Text) → InExpansion h (Nonterminal.start n)
      → at_name (nonterminal_of (start_name v.prefix n)) v.types ≡ at_name (nonterminal_of n) v.types
  start_type n i =
      let s = start_from n i in
      subst (λ (x : Text). at_name (nonterminal_of (start_name v.prefix x)) v.types ≡ at_name (nonterminal_of x) v.types) s.3
      (ap (λ (p : Text). at_name (nonterminal_of (p ++ s.0.name)) v.types) (sym prefix_is)
      ∙ m.types_are.starts s.0 s.1 s.2 ∙ sym (rule_type s.0 s.1))

  -- actions

  -- no two productions of one nonterminal have one origin
  one_production : (p q : NamedProduction) → Among v.productions p → Among v.productions q → p.nonterminal ≡ q.nonterminal
      → slice_get v.origins p.action ≡ slice_get v.origins q.action → q ≡ p
  one_production p q i j e o =
      let a = among_at v.productions p i in
      let b = among_at v.productions q j in
      let same : a.0 ≡ b.0 = m.productions.once a.0 b.0 p q a.1 b.1 e o in
      one_value q p (slice_get v.productions b.0) b.1 (subst (λ (n : ℕ). slice_get v.productions n ≡ Some p) same a.1)

  made_among : (n : NonterminalString) (d : NonterminalData) → at_name n nonterminals ≡ Some d → (q : Production)
      → Among d.productions q → Among v.productions (named_production q)
  made_among n d e q i =
      flat_map_among productions_at nonterminals (n, d) (named_production q)
      (found_among (names.ghosts).cmp equal_names nonterminals n d e) (map_among named_production d.productions q i)

  origin_at : (q : Production) (o : Origin) → option_map origin_view (slice_get made.origins q.action.0) ≡ Some o
      → slice_get v.origins q.action.0 ≡ Some o
  origin_at q o e = slice_get-map origin_view made.origins q.action.0 ∙ e

  rule_definition : (r : Rule) → Among rs r → (a : Alternative) (q : Production)
      → IsLoweredAlternative made types.nonterminal_types r a q → HasDefinition v (named_production q) a.action
  rule_definition r i a q s =
      let same : at_name (nonterminal_of q.nonterminal.0) v.types ≡ at_name (nonterminal_of r.name) types.nonterminal_types =
      ap (λ (n : NonterminalString). at_name (nonterminal_of n.0) v.types) s.nonterminal_is ∙ rule_type r i in
      subst (λ (o : Option TypeRepr).
      IsSomeAnd o (λ t. slice_get v.definitions q.action.0 ≡ Some (definition_of t a.action))) (sym same)
      (typed_definition (at_name (nonterminal_of r.name) types.nonterminal_types) a.action
      (slice_get v.definitions q.action.0) (l.typed r i) s.definition_is)

  start_definition : (r : Rule) → Among rs r → gets_start r ≡ true → (d : NonterminalData)
      → (s : IsLoweredStart made types.nonterminal_types w r d) → HasDefinition v (named_production s.production) Action.default
  start_definition r i e d s =
      let q = s.production in
      let same : at_name (nonterminal_of q.nonterminal.0) v.types ≡ at_name (nonterminal_of r.name) types.nonterminal_types =
      ap (λ (n : NonterminalString). at_name (nonterminal_of n.0) v.types) s.nonterminal_is ∙ m.types_are.starts r i e in
      subst (λ (o : Option TypeRepr).
      IsSomeAnd o (λ t. slice_get v.definitions q.action.0 ≡ Some (definition_of t Action.default))) (sym same)
      (typed_definition (at_name (nonterminal_of r.name) types.nonterminal_types) Action.default
      (slice_get v.definitions q.action.0) (l.typed r i) s.definition_is)

  -- the production of a start: it is made for it, and there is no other
  record IsMadeForStart (p : NamedProduction) (r : Rule) : Type 0 where
    found : NonterminalData
    there : at_name (start_of w r) nonterminals ≡ Some found
    lowered : IsLoweredStart made types.nonterminal_types w r found
    is_it : named_production lowered.production ≡ p

  start_made : (p : NamedProduction) → Among v.productions p → (r : Rule) → Among rs r → gets_start r ≡ true
      → p.nonterminal ≡ w.prefix ++ r.name → slice_get v.origins p.action ≡ Some Origin.start → IsMadeForStart p r
  start_made p i r j e name_so told =
      let d = some_there (IsLoweredStart made types.nonterminal_types w r) (at_name (start_of w r) nonterminals)
      (m.nonterminals.starts r j e) in
      let q = d.2.production in
      let there : Among v.productions (named_production q) =
      made_among (start_of w r) d.0 d.1 q (subst (λ (ps : List Production). Among ps q) (sym d.2.productions_are) (inl refl)) in
      let named : q.nonterminal.0 ≡ w.prefix ++ r.name = ap (λ (n : NonterminalString). n.0) d.2.nonterminal_is in
      record {
        found = d.0;
        there = d.1;
        lowered = d.2;
        is_it = one_production p (named_production q) i there (name_so ∙ sym named)
            (told ∙ sym (origin_at q Origin.start d.2.origin_is));
      }

  of_start : (p : NamedProduction) → Among v.productions p → (r : Rule) → Among rs r → gets_start r ≡ true
      → p.nonterminal ≡ w.prefix ++ r.name → slice_get v.origins p.action ≡ Some Origin.start → IsStartProduction h v p
  of_start p i r j e name_so told =
      let q = start_made p i r j e name_so told in
      record {
        name = r.name;
        start_there = start_in r j e;
        nonterminal_is = name_so ∙ ap (λ (x : Text). x ++ r.name) prefix_is;
        definition = subst (λ (x : NamedProduction). HasDefinition v x Action.default) q.is_it
            (start_definition r j e q.found q.lowered);
      }

  -- that of an alternative: it is made for it, and there is no other
  record IsMadeFor (p : NamedProduction) (r : Rule) (a : Alternative) : Type 0 where
    found : NonterminalData
    there : at_name (nonterminal_of r.name) nonterminals ≡ Some found
    production : Production
    listed : Among found.productions production
    lowered : IsLoweredAlternative made types.nonterminal_types r a production
    is_it : named_production production ≡ p

  made_for : (p : NamedProduction) → Among v.productions p → (r : Rule) → Among rs r → (a : Alternative) → Among r.alternatives a
      → p.nonterminal ≡ r.name → slice_get v.origins p.action ≡ Some a.origin → IsMadeFor p r a
  made_for p i r j a k name_so told =
      let d = some_there (IsLoweredRule made types.nonterminal_types r) (at_name (nonterminal_of r.name) nonterminals)
      (m.nonterminals.rules r j) in
      let q = alternative_made made types.nonterminal_types r r.alternatives d.0.productions d.2.productions_are a k in
      let there : Among v.productions (named_production q.0) = made_among (nonterminal_of r.name) d.0 d.1 q.0 q.1 in
      let named : q.0.nonterminal.0 ≡ r.name = ap (λ (n : NonterminalString). n.0) q.2.nonterminal_is in
      let origin : slice_get v.origins q.0.action.0 ≡ Some a.origin = origin_at q.0 a.origin q.2.origin_is in
      record {
        found = d.0;
        there = d.1;
        production = q.0;
        listed = q.1;
        lowered = q.2;
        is_it = one_production p (named_production q.0) i there (name_so ∙ sym named) (told ∙ sym origin);
      }

  of_rule : (p : NamedProduction) → Among v.productions p → (r : Rule) → Among rs r → (a : Alternative) → Among r.alternatives a
      → p.nonterminal ≡ r.name → slice_get v.origins p.action ≡ Some a.origin → IsRuleProduction h v p
  of_rule p i r j a k name_so told =
      let q = made_for p i r j a k name_so told in
      record {
        rule = rule_between r;
        choice = choice_of (a.origin, a);
        rule_there = between_among r j;
        choice_there = map_among choice_of (with_origins r.alternatives) (a.origin, a)
            (map_among (λ (b : Alternative). (b.origin, b)) r.alternatives a k);
        nonterminal_is = name_so;
        origin_is = told;
        definition = subst (λ (x : NamedProduction). HasDefinition v x a.action) q.is_it
            (rule_definition r j a q.production q.lowered);
      }

  -- there is no other production
  acting : (p : NamedProduction) → Among v.productions p → IsRuleProduction h v p ⊎ IsStartProduction h v p
  acting p i =
      let s = m.productions.no_other p i in
      go s.0 s.1 s.2
      (among_parts (map start_row (rules_with_starts rs)) (flat_map rule_rows rs) (s.0, s.1)
      ((are_expansion_rows finds w l.expanded l.ordered l.free_prefix).every s.0 s.1 s.2.in_expansion s.2.produced))
    where
      go : (label : WrittenLabel) (side : RightSide) → StandsForLabel h (lowered_name w.prefix) v.origins p label side
          → Among (map start_row (rules_with_starts rs)) (label, side) ⊎ Among (flat_map rule_rows rs) (label, side)
          → IsRuleProduction h v p ⊎ IsStartProduction h v p
      go label side s (inl j) =
          let r = among_map start_row (rules_with_starts rs) (label, side) j in
          let f = among_filter gets_start rs r.0 r.1 in
          inr (of_start p i r.0 f.0 f.1
          (s.nonterminal_is ∙ ap (λ (row : Row). lowered_name w.prefix row.0.head) (sym r.2))
          (s.origin_is ∙ ap (λ (row : Row). Some row.0.choice) (sym r.2)))
      go label side s (inr j) =
          let r = among_flat_map rule_rows rs (label, side) j in
          let a = among_map (alternative_row r.0.name) r.0.alternatives (label, side) r.2 in
          inl (of_rule p i r.0 r.1 a.0 a.1
          (s.nonterminal_is ∙ ap (λ (row : Row). lowered_name w.prefix row.0.head) (sym a.2))
          (s.origin_is ∙ ap (λ (row : Row). Some row.0.choice) (sym a.2)))

  -- where productions stand

  production_at : (i : ℕ) (p : NamedProduction) (s : TextSpan) → slice_get v.spans i ≡ Some (p, s)
      → slice_get v.productions i ≡ Some p
  production_at i p s e =
      subst (λ (l : List NamedProduction). slice_get l i ≡ Some p) (spans_are_each nonterminals)
      (slice_get-map (λ (x : NamedProduction × TextSpan). x.0) v.spans i ∙ same_first (slice_get v.spans i) p s e)

  -- a production stands at one place
  one_span : (p : NamedProduction) (s t : TextSpan) → Among v.spans (p, s) → Among v.spans (p, t) → s ≡ t
  one_span p s t i j =
      let a = among_at v.spans (p, s) i in
      let b = among_at v.spans (p, t) j in
      let same : a.0 ≡ b.0 =
      m.productions.once a.0 b.0 p p (production_at a.0 p s a.1) (production_at b.0 p t b.1) refl refl in
      ap (λ (x : NamedProduction × TextSpan). x.1)
      (one_value (p, s) (p, t) (slice_get v.spans b.0)
      (subst (λ (n : ℕ). slice_get v.spans n ≡ Some (p, s)) same a.1) b.1)

  -- the production of some nonterminal stands where it is made
  span_made : (n : NonterminalString) (d : NonterminalData) → at_name n nonterminals ≡ Some d → (q : Production)
      → Among d.productions q → (p : NamedProduction) → named_production q ≡ p → (s : TextSpan) → Among v.spans (p, s)
      → span_view q.span ≡ s
  span_made n d e q i p same s j =
      let there : Among v.spans (named_production q, span_view q.span) =
      flat_map_among spans_at nonterminals (n, d) (named_production q, span_view q.span)
      (found_among (names.ghosts).cmp equal_names nonterminals n d e)
      (map_among (λ (x : Production). (named_production x, span_view x.span)) d.productions q i) in
      one_span p (span_view q.span) s
      (subst (λ (x : NamedProduction). Among v.spans (x, span_view q.span)) same there) j

  span_there : (p : NamedProduction) (s : TextSpan) → Among v.spans (p, s) → Among v.productions p
  span_there p s i =
      subst (λ (l : List NamedProduction). Among l p) (spans_are_each nonterminals)
      (map_among (λ (x : NamedProduction × TextSpan). x.0) v.spans (p, s) i)

  stands : (p : NamedProduction) (s : TextSpan) → Among v.spans (p, s) → IsAlternativeSpan w v p s ⊎ IsStartSpan w h v p s
  stands p s i =
      let t = m.productions.no_other p (span_there p s i) in
      go t.0 t.1 t.2
      (among_parts (map start_row (rules_with_starts rs)) (flat_map rule_rows rs) (t.0, t.1)
      ((are_expansion_rows finds w l.expanded l.ordered l.free_prefix).every t.0 t.1 t.2.in_expansion t.2.produced))
    where
      go : (label : WrittenLabel) (side : RightSide) → StandsForLabel h (lowered_name w.prefix) v.origins p label side
          → Among (map start_row (rules_with_starts rs)) (label, side) ⊎ Among (flat_map rule_rows rs) (label, side)
          → IsAlternativeSpan w v p s ⊎ IsStartSpan w h v p s
      go label side t (inl j) =
          let r = among_map start_row (rules_with_starts rs) (label, side) j in
          let f = among_filter gets_start rs r.0 r.1 in
          let name : p.nonterminal ≡ w.prefix ++ r.0.name =
          t.nonterminal_is ∙ ap (λ (row : Row). lowered_name w.prefix row.0.head) (sym r.2) in
          let origin : slice_get v.origins p.action ≡ Some Origin.start =
          t.origin_is ∙ ap (λ (row : Row). Some row.0.choice) (sym r.2) in
          let q = start_made p (span_there p s i) r.0 f.0 f.1 name origin in
          inr (record {
            rule = r.0;
            rule_there = f.0;
            start_there = start_in r.0 f.0 f.1;
            nonterminal_is = name ∙ ap (λ (x : Text). x ++ r.0.name) prefix_is;
            origin_is = origin;
            span_is = sym q.lowered.production_span_is
                ∙ span_made (start_of w r.0) q.found q.there q.lowered.production
                (subst (λ (ps : List Production). Among ps q.lowered.production) (sym q.lowered.productions_are) (inl refl)) p q.is_it s i;
          })
      go label side t (inr j) =
          let r = among_flat_map rule_rows rs (label, side) j in
          let a = among_map (alternative_row r.0.name) r.0.alternatives (label, side) r.2 in
          let name : p.nonterminal ≡ r.0.name =
          t.nonterminal_is ∙ ap (λ (row : Row). lowered_name w.prefix row.0.head) (sym a.2) in
          let origin : slice_get v.origins p.action ≡ Some a.0.origin =
          t.origin_is ∙ ap (λ (row : Row). Some row.0.choice) (sym a.2) in
          let q = made_for p (span_there p s i) r.0 r.1 a.0 a.1 name origin in
          inl (record {
            rule = r.0;
            alternative = a.0;
            rule_there = r.1;
            alternative_there = a.1;
            nonterminal_is = name;
            origin_is = origin;
            span_is = sym q.lowered.span_is
                ∙ span_made (nonterminal_of r.0.name) q.found q.there q.production q.listed p q.is_it s i;
          })

  -- where nonterminals stand

  -- what has a start is public
  start_public : (r : Rule) → Among rs r → InExpansion h (Nonterminal.start r.name) → r.public ≡ true
  start_public r i started =
      let q = start_from r.name started in
      let first = l.expanded.rules (rule_between q.0) (between_among q.0 q.1) in
      let named : IsRule h r.name (rule_between q.0) = subst (λ (n : Text). IsRule h n (rule_between q.0)) q.3 first in
      let same = one_rule h r.name (rule_between q.0) (rule_between r) named (l.expanded.rules (rule_between r) (between_among r i)) in
      ap (λ (e : EnabledRule). e.public) (sym same) ∙ (and_parts q.0.public (has_none q.0.parameters) q.2).0

  place_found : (n : Text) (s : TextSpan) → Among v.places (n, s)
      → (d : NonterminalData) × (at_name (nonterminal_of n) nonterminals ≡ Some d) × (span_view d.span ≡ s)
  place_found n s i =
      let u = among_map (λ (e : NonterminalString × NonterminalData). (e.0.0, span_view e.1.span)) (found_entries nonterminals)
      (n, s) i in (
        u.0.1,
        ap (λ (x : Text × TextSpan). at_name (nonterminal_of x.0) nonterminals) (sym u.2) ∙ entry_found nonterminals u.0 u.1,
        ap (λ (x : Text × TextSpan). x.1) u.2,
      )

  rule_place : (r : Rule) (s : TextSpan) → Among rs r → Among v.places (r.name, s) → s ≡ r.span
  rule_place r s i j =
      let u = place_found r.name s j in
      let d = some_there (IsLoweredRule made types.nonterminal_types r) (at_name (nonterminal_of r.name) nonterminals)
      (m.nonterminals.rules r i) in
      sym u.2 ∙ ap (λ (x : NonterminalData). span_view x.span)
      (one_value u.0 d.0 (at_name (nonterminal_of r.name) nonterminals) u.1 d.1) ∙ d.2.span_is

  start_place : (r : Rule) (s : TextSpan) → Among rs r → InExpansion h (Nonterminal.start r.name)
      → Among v.places (start_name v.prefix r.name, s) → s ≡ r.span
  start_place r s i started j =
      let public : r.public ≡ true = start_public r i started in
      let u = place_found (w.prefix ++ r.name) s
      (subst (λ (p : Text). Among v.places (p ++ r.name, s)) (sym prefix_is) j) in
      let d = some_there (IsLoweredStart made types.nonterminal_types w r) (at_name (start_of w r) nonterminals)
      (m.nonterminals.starts r i (public_starts finds w l.expanded l.ordered l.free_prefix r i public)) in
      sym u.2 ∙ ap (λ (x : NonterminalData). span_view x.span) (one_value u.0 d.0 (at_name (start_of w r) nonterminals) u.1 d.1)
      ∙ d.2.span_is

  pub lowered_from : IsLoweredFrom w h types.nonterminal_types v
  lowered_from = record {
    name_of = lowered_name w.prefix;
    rule_names = λ n. refl;
    start_names = λ n. ap (λ (p : Text). p ++ n) prefix_is;
    prefix_is = k.prefix;
    productions = m.productions;
    numbered = m.numbered;
    actions = acting;
    no_other_definition = m.sides.as_many ∙ sym (length-map made.origins origin_view);
    each_span = spans_are_each nonterminals;
    spans = stands;
    each_place = places_are_each (found_entries nonterminals);
    rule_places = λ r s i j. rule_place r s i j;
    start_places = λ r s i e j. start_place r s i e j;
    each_attributes = attributes_are_each (found_entries nonterminals);
    rule_attributes = λ r as_ i j. rule_has finds g types made l m prefix_is r as_ i j;
    start_attributes = λ r as_ i e j.
        start_has finds g types made l m prefix_is r as_ i
        (public_starts finds w l.expanded l.ordered l.free_prefix r i (start_public r i e)) j;
    nonterminals = λ n. (λ i. name_in n i, λ a. in_name n a);
    starts = λ n t. (λ i. listed_start n t i, λ a. start_listed n t a.0 a.1);
    inlined = λ r i. rule_inlined r i;
    no_start_inlined = λ n i a. no_start n i a;
    no_other_inlined = λ n i. inlined_named finds g types made l m prefix_is n i;
    terminals = λ t. (λ i. terminal_used t i, λ a. used_terminal t a);
    terminal_types = terminals_typed;
    rule_types = λ r i. between_type r i;
    start_types = λ n i. start_type n i;
    no_other_type = λ n t e. type_given finds g types made l m prefix_is n t e;
    lalr = k.algorithm ∙ lalr_is g.attributes;
    entries = entries_are;
  }
