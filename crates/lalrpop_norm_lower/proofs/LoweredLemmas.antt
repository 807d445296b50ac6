-- What lowering makes is the lowered grammar; for the pass.
use Rattle.std.specs.Prelude.{Bool, IsSomeAnd, Option, Some, None, is_some, map, slice_get}
use Rattle.std.proofs.Common.{inl, inr, ◌≡◌, ◌∙◌, ℕ, zero, suc, ◌<◌, List, [], ◌∷◌, refl, ap, sym, subst, true}
use Rattle.std.proofs.Common.{length, length-append, arith}
use Rattle.lalrpop_grammar_symbols.specs.Symbols.{Text}
use Rattle.lalrpop_grammar_symbols.specs.Views.{terminal_view}
use Rattle.lalrpop_grammar_symbols.specs.contracts.terminal.TerminalStringOrd.TheImpl as terminal_order
use Rattle.lalrpop_grammar_symbols.specs.declared.names.NonterminalString.{NonterminalString}
use Rattle.lalrpop_grammar_symbols.specs.declared.terminal.TerminalString.{TerminalString}
use Rattle.lalrpop_grammar.specs.Views.{origin_view}
use Rattle.lalrpop_grammar.specs.WrittenGrammar.{Alternative, Grammar, Rule, rules_of}
use Rattle.lalrpop_grammar_language.specs.Among.{Among}
use Rattle.lalrpop_grammar_language.specs.Expansion.{GrammarSymbol}
use Rattle.lalrpop_grammar_language.proofs.PlaceLemmas.{among_map}
use Rattle.lalrpop_grammar_repr.specs.Maps.{at_name, at_terminal}
use Rattle.lalrpop_grammar_repr.specs.declared.production.Symbol.{Symbol}
use Rattle.lalrpop_grammar_repr.specs.declared.production.Symbol.TheVariants as symbols
use Rattle.lalrpop_grammar_repr.specs.declared.types.Types.{Types}
use Rattle.lalrpop_grammar.specs.declared.types.type_repr.TypeRepr.{TypeRepr}
use Rattle.lalrpop_norm_theory.specs.Between.{grammar_between}
use Rattle.lalrpop_norm_theory.specs.Productions.{AreProductions, NamedProduction}
use Rattle.lalrpop_grammar_language.proofs.AmongLemmas.{among_flat_map}
use Rattle.lalrpop_grammar_language.proofs.StepLemmas.{among_left}
use Rattle.lalrpop_norm_tyinfer.specs.TerminalTypes.{terminals_of_items, terminals_of_rules}
use Rattle.lalrpop_norm_tyinfer.specs.TypeFaults.{nonterminal_of}
use Rattle.lalrpop_norm_lower.specs.Definitions.{definition_of, type_in_table}
use Rattle.lalrpop_norm_lower.specs.Lowered.{AreListedStarts, AreLoweredTerminals, IsLowerable, IsLowered, IsLoweredRule}
use Rattle.lalrpop_norm_lower.specs.Lowered.{AreLoweredTypes, IsLoweredName, IsLoweredSymbol}
use Rattle.lalrpop_norm_lower.specs.LoweredLists.{lowered_definitions, lowered_origins, rule_definitions, rule_origins}
use Rattle.lalrpop_norm_lower.specs.LoweredLists.{rules_with_starts, start_definitions, start_origins}
use Rattle.lalrpop_norm_lower.specs.LoweredSymbols.{lowered_name, named_production, named_productions, named_symbol, productions_at}
use Rattle.lalrpop_norm_lower.specs.MadeLists.{IsMadeOfLists}
use Rattle.lalrpop_norm_lower.specs.declared.lowering.Normalized.{Normalized}
use Rattle.lalrpop_norm_lower.proofs.EarlierLemmas.{Earlier}
use Rattle.lalrpop_norm_lower.proofs.ExpansionRowLemmas.{HaveOwnNames, names_apart}
use Rattle.lalrpop_norm_lower.proofs.InlineLemmas.{inlined_as_marked}
use Rattle.lalrpop_norm_lower.proofs.ListedLemmas.{starts_listed, terminals_lowered, types_lowered}
use Rattle.lalrpop_norm_lower.proofs.MapLemmas.{lowered_numbers, lowered_productions}
use Rattle.lalrpop_norm_lower.proofs.OrderLemmas.{equal_terminals}
use Rattle.lalrpop_norm_lower.proofs.PutLemmas.{key_found}
use Rattle.lalrpop_norm_lower.proofs.NonterminalLemmas.{IsKnownSymbol, known_production, nonterminals_lowered}

-- a list and its images are as many
pub mapped_many : {A B : Type 0} (f : A → B) (xs : List A) → length (map f xs) ≡ length xs
mapped_many f [] = refl
mapped_many f (x ∷ xs) = ap suc (mapped_many f xs)

rules_as_many : (table : List (NonterminalString × TypeRepr)) (rs : List Rule)
    → length (rule_definitions table rs) ≡ length (rule_origins rs)
rules_as_many table [] = refl
rules_as_many table (r ∷ rs) =
    let a = length-append (map (λ (x : Alternative). definition_of (type_in_table table r.name) x.action) r.alternatives)
    (rule_definitions table rs) in
    let b = length-append (map (λ (x : Alternative). x.origin) r.alternatives) (rule_origins rs) in
    let c = mapped_many (λ (x : Alternative). definition_of (type_in_table table r.name) x.action) r.alternatives in
    let d = mapped_many (λ (x : Alternative). x.origin) r.alternatives in
    let e = rules_as_many table rs in
    omega (arith, a, b, c, d, e)

lists_as_many : (table : List (NonterminalString × TypeRepr)) (rs : List Rule)
    → length (lowered_definitions table rs) ≡ length (lowered_origins rs)
lists_as_many table rs =
    let starts = rules_with_starts rs in
    let a = length-append (start_definitions table starts) (rule_definitions table rs) in
    let b = length-append (start_origins starts) (rule_origins rs) in
    let c : length (start_definitions table starts) ≡ length starts = mapped_many _ starts in
    let d : length (start_origins starts) ≡ length starts = mapped_many _ starts in
    let e = rules_as_many table rs in
    omega (arith, a, b, c, d, e)

below_length : {A : Type 0} (xs : List A) (i : ℕ) (x : A) → slice_get xs i ≡ Some x → i < length xs
below_length [] i x e = cc
below_length (y ∷ ys) zero x e = omega arith
below_length (y ∷ ys) (suc i) x e = let h = below_length ys i x e in omega (arith, h)

pub some_is : {A : Type 0} (P : A → Type 0) (o : Option A) → IsSomeAnd o P → is_some o ≡ true
some_is P None h = absurd h
some_is P (Some x) h = refl

module _ (finds : Text → Text → Option Bool) (w : Grammar) (types : Types) (l : IsLowerable finds w types) (made : Normalized)
    (m : IsMadeOfLists w types made) where
  productions : AreProductions (grammar_between finds w) (lowered_name w.prefix) (named_productions made.grammar.nonterminals)
      (map origin_view made.origins)
  productions = lowered_productions finds w types l made.grammar.nonterminals m.nonterminals (map origin_view made.origins) m.origins

  terminals : AreLoweredTerminals w made.grammar.terminals
  terminals = terminals_lowered w types.terminal_types made.grammar.terminals l.terminals m.terminals

  symbol_there : (s : Symbol) → IsKnownSymbol finds w l.expanded (named_symbol s) → IsLoweredSymbol made (named_symbol s)
  symbol_there (symbols.Nonterminal n) h =
      subst (λ (k : Text). is_some (at_name (nonterminal_of k) made.grammar.nonterminals) ≡ true) h.2
      (some_is (IsLoweredRule made types.nonterminal_types h.0) (at_name (nonterminal_of h.0.name) made.grammar.nonterminals)
      ((nonterminals_lowered finds w types l made m).rules h.0 h.1))
  symbol_there (symbols.Terminal t) h = (
    t,
    refl,
    (terminals.members t).1 (among_left (terminals_of_rules (rules_of w.items)) (terminals_of_items w.items) (terminal_view t) h),
  )

  side_there : (p : NamedProduction) (x : GrammarSymbol Text) → Among (named_productions made.grammar.nonterminals) p
      → Among p.symbols x → IsLoweredSymbol made x
  side_there p x i j =
      let e = among_flat_map productions_at made.grammar.nonterminals p i in
      let q = among_map named_production e.0.1.productions p e.2 in
      let there : Among (map named_symbol q.0.symbols) x = subst (λ (k : NamedProduction). Among k.symbols x) (sym q.2) j in
      let s = among_map named_symbol q.0.symbols x there in
      subst (IsLoweredSymbol made) s.2
      (symbol_there s.0 (subst (IsKnownSymbol finds w l.expanded) (sym s.2)
      (known_production finds w types l made m e.0 e.1 q.0 q.1 x there)))

  rows_apart : Earlier HaveOwnNames (rules_of w.items)
  rows_apart = names_apart finds w l.expanded l.ordered l.free_prefix

  types_made : AreLoweredTypes w types made.grammar.types
  types_made =
      types_lowered w rows_apart types made.grammar.types l.typed m.terminal_types m.nonterminal_types

  name_typed : (n : NonterminalString) → IsLoweredName w n → is_some (at_name n made.grammar.types.nonterminal_types) ≡ true
  name_typed n (inl h) =
      subst (λ k. is_some (at_name k made.grammar.types.nonterminal_types) ≡ true) (sym h.2)
      (ap is_some (types_made.others (nonterminal_of h.0.name)
      (λ q s. l.free_prefix h.0 q.name h.1 (ap (λ (k : NonterminalString). k.0) s.name_is)))
      ∙ l.typed h.0 h.1)
  name_typed n (inr h) =
      subst (λ k. is_some (at_name k made.grammar.types.nonterminal_types) ≡ true) (sym h.1.name_is)
      (ap is_some (types_made.starts h.0 h.1.rule h.1.starts) ∙ l.typed h.0 h.1.rule)

  terminal_typed : (t : TerminalString) → Among made.grammar.terminals.all t
      → is_some (at_terminal t made.grammar.types.terminal_types) ≡ true
  terminal_typed t i =
      ap (λ (es : List (TerminalString × TypeRepr)). is_some (at_terminal t es)) m.terminal_types
      ∙ some_is (λ v. Among types.terminal_types (t, v)) (at_terminal t types.terminal_types)
      (key_found (terminal_order.ghosts).cmp equal_terminals types.terminal_types t (subst (λ k. Among k t) m.terminals.all_are i))

  as_many : length made.grammar.action_fn_defns ≡ length made.origins
  as_many =
      ap length m.definitions ∙ lists_as_many types.nonterminal_types (rules_of w.items) ∙ sym (ap length m.origins)
      ∙ mapped_many origin_view made.origins

  action_there : (p : NamedProduction) → Among (named_productions made.grammar.nonterminals) p
      → p.action < length made.grammar.action_fn_defns
  action_there p i =
      let s = productions.no_other p i in
      let below = below_length (map origin_view made.origins) p.action s.0.choice s.2.origin_is in
      let many = mapped_many origin_view made.origins in
      let same = as_many in
      omega (arith, below, many, same)

  pub made_lowered : IsLowered (grammar_between finds w) w types made
  made_lowered = record {
    productions = productions;
    numbered = lowered_numbers finds w types l made.grammar.nonterminals m.nonterminals;
    nonterminals = nonterminals_lowered finds w types l made m;
    inlined = inlined_as_marked finds w types l made types.nonterminal_types (nonterminals_lowered finds w types l made m);
    starts = subst (AreListedStarts w) (sym m.starts) (starts_listed w rows_apart);
    types_are = types_made;
    typed = record {
      nonterminals = λ n d e. name_typed n ((nonterminals_lowered finds w types l made m).no_other n d e);
      terminals = terminal_typed;
    };
    terminals = terminals;
    sides = record { symbols = side_there; actions = action_there; as_many = as_many };
  }
