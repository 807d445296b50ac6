-- Rules that are written for the keys of a grammar that is ready are what the pass gives; for the pass.
use Rattle.std.proofs.Common.{◌≡◌, ◌+◌, ℕ, List, [], ◌∷◌, ◌++◌, refl, ap, ap₂, sym, ◌∙◌, subst, map}
use Rattle.std.specs.Prelude.{◌⊎◌, Bool, Option, None, Result, Ok, Err, IfOk, IfErr}
use Rattle.lalrpop_grammar_symbols.specs.Symbols.{Text, TextSpan, Closed, Closeds}
use Rattle.lalrpop_grammar.specs.WrittenGrammar.{Alternative, Grammar, Rule, WrittenItem, rules_of}
use Rattle.lalrpop_grammar_language.specs.Among.{Among}
use Rattle.lalrpop_grammar_language.specs.Enabled.{EnabledGrammar}
use Rattle.lalrpop_grammar_repr.specs.declared.session.NormFault.{NormFault}
use Rattle.lalrpop_norm_theory.specs.Between.{grammar_between, rule_between}
use Rattle.lalrpop_norm_theory.specs.Rounds.{AreCallsToDepth}
use Rattle.lalrpop_norm_theory.specs.LevelNames.{times_taken}
use Rattle.lalrpop_norm_theory.proofs.ExpansionListLemmas.{rule_there}
use Rattle.lalrpop_norm_theory.specs.KeyTables.{IsKeyTable}
use Rattle.lalrpop_norm_theory.specs.UsedKeys.{IsListByUse}
use Rattle.lalrpop_norm_theory.proofs.KeyTableLemmas.{table_expansion}
use Rattle.lalrpop_norm_chain.specs.Chains.{IsMacroResult}
use Rattle.lalrpop_norm_chain.specs.OwnAttributes.{added_attributes}
use Rattle.lalrpop_norm_chain.specs.PremiseLaws.{entries_of_items}
use Rattle.lalrpop_norm_chain.specs.Spans.{IsAddedOrigin, IsMadeFrom}
use Rattle.lalrpop_norm_keys.specs.KeyPlaces.{IsKeyPlace, IsShapeKey}
use Rattle.lalrpop_norm_token_check.specs.Blocks.{block_groups}
use Rattle.lalrpop_norm_keys.specs.Tables.{HasEachOnce}
use Rattle.lalrpop_norm_keys.specs.Arity.{arity_faults}
use Rattle.lalrpop_norm_keys.specs.FoundCalls.{TellsOfMadeCall}
use Rattle.lalrpop_norm_macros.specs.KeyNames.{AreKeyNames, HasFoundKeys, HoldKeyNames, IsNameable, times_by_rules}
use Rattle.lalrpop_norm_macros.specs.NameLaws.{nonterminal_name}
use Rattle.lalrpop_norm_macros.specs.OrderedNames.{key_names_from, key_names_of}
use Rattle.lalrpop_norm_macros.proofs.ExpansionNameLemmas.{expansion_named}
use Rattle.lalrpop_norm_macros.proofs.FoundNamingLemmas.{texts_between}
use Rattle.lalrpop_norm_macros.proofs.UsedNameLemmas.{named_by_use}
use Rattle.lalrpop_norm_macros.specs.FinishedRules.{AreFinishedRules, AreRulesFrom, IsFinishedRule}
use Rattle.lalrpop_norm_macros.specs.KeyRuleLaws.{AreRulesUnderNames, HasRightKeys, TellsOfRightKeys}
use Rattle.lalrpop_norm_macros.specs.RuleItems.{grammar_with_rules, other_items}
use Rattle.lalrpop_norm_macros.proofs.CountLemmas.{right_by_counts}
use Rattle.lalrpop_norm_macros.proofs.FinishedGrammarLemmas.{finished_declarations, finished_expanded, finished_key_rules}
use Rattle.lalrpop_norm_macros.proofs.FinishedGrammarLemmas.{rule_of_some}
use Rattle.lalrpop_norm_macros.proofs.FinishedLemmas.{finished_name, rules_of_made}
use Rattle.lalrpop_norm_macros.specs.MacroPass.{IsMacroFault, IsReadyForMacros}
use Rattle.lalrpop_norm_macros.proofs.FaultLemmas.{told_condition}
use Rattle.lalrpop_norm_macros.proofs.KeySpanLemmas.{ArePlacedFrom, rules_placed}
use Rattle.lalrpop_norm_macros.proofs.SpanLemmas.{finished_attributes, finished_place, finished_stands}

-- what lies beside rules

-- the items that are no rules stay, when the rules are taken out and new ones put behind
pub others_stay : (items : List WrittenItem) (rs : List Rule) → other_items (other_items items ++ map WrittenItem.nonterminal rs)
    ≡ other_items items
others_stay [] [] = refl
others_stay [] (r ∷ rs) = others_stay [] rs
others_stay (WrittenItem.nonterminal r ∷ items) rs = others_stay items rs
others_stay (WrittenItem.match_token groups p ∷ items) rs = ap (λ l. WrittenItem.match_token groups p ∷ l) (others_stay items rs)
others_stay (WrittenItem.extern_token block ∷ items) rs = ap (λ l. WrittenItem.extern_token block ∷ l) (others_stay items rs)
others_stay (WrittenItem.intern_token entries ∷ items) rs = ap (λ l. WrittenItem.intern_token entries ∷ l) (others_stay items rs)
others_stay (WrittenItem.import text ∷ items) rs = ap (λ l. WrittenItem.import text ∷ l) (others_stay items rs)

block_beside : (items : List WrittenItem) → block_groups (other_items items) ≡ block_groups items
block_beside [] = refl
block_beside (WrittenItem.nonterminal r ∷ items) = block_beside items
block_beside (WrittenItem.match_token groups p ∷ items) = refl
block_beside (WrittenItem.extern_token block ∷ items) = block_beside items
block_beside (WrittenItem.intern_token entries ∷ items) = block_beside items
block_beside (WrittenItem.import text ∷ items) = block_beside items

entries_beside : (items : List WrittenItem) → entries_of_items (other_items items) ≡ entries_of_items items
entries_beside [] = refl
entries_beside (WrittenItem.nonterminal r ∷ items) = entries_beside items
entries_beside (WrittenItem.match_token groups p ∷ items) = entries_beside items
entries_beside (WrittenItem.extern_token block ∷ items) = entries_beside items
entries_beside (WrittenItem.intern_token entries ∷ items) = ap (λ l. entries ++ l) (entries_beside items)
entries_beside (WrittenItem.import text ∷ items) = entries_beside items

-- a match block and tokenizers are what lies beside rules
pub block_same : (items later : List WrittenItem) → other_items later ≡ other_items items → block_groups later ≡ block_groups items
block_same items later e = sym (block_beside later) ∙ ap block_groups e ∙ block_beside items

pub entries_same : (items later : List WrittenItem) → other_items later ≡ other_items items
    → entries_of_items later ≡ entries_of_items items
entries_same items later e = sym (entries_beside later) ∙ ap entries_of_items e ∙ entries_beside items

module _ (finds : Text → Text → Option Bool) (w : Grammar) where
  abbrev g : EnabledGrammar
  g = grammar_between finds w

  -- the keys of a grammar that is ready, where no wrong number of arguments is told
  pub right_keys : IsReadyForMacros finds w → arity_faults g (rules_of w.items) ≡ [] → (depth : ℕ) (calls keys : List Closed)
      → AreCallsToDepth g depth calls [] → IsKeyTable g calls keys → IsListByUse g keys → HasRightKeys finds [] w keys
  right_keys ready none depth calls keys found table order = record {
    active = ready.active;
    right = right_by_counts finds w ready.resolved ready.recovery none;
    flat = ready.flat;
    depth = depth;
    calls = calls;
    found = found;
    table = table;
    in_order = order;
  }

  -- so names for them are names of keys
  pub keys_found : (keys : List Closed) → HasRightKeys finds [] w keys → HasFoundKeys g keys
  keys_found keys k = record { calls = k.calls; depth = k.depth; found = k.found; table = k.table }

  module _ (ready : IsReadyForMacros finds w) (keys : List Closed) (right : HasRightKeys finds [] w keys) (once : HasEachOnce keys)
      (f : Closed → Text) (names : AreKeyNames g keys f) (given : map f keys ≡ key_names_from (times_by_rules g) keys)
      (places : ℕ → TextSpan) (placed : ArePlacedFrom g places 0 keys)
      (made : List Rule) (done : AreFinishedRules finds w f places keys made) where
    abbrev expanded : Grammar
    expanded = grammar_with_rules w made

    abbrev Done : ℕ → Closed → Rule → Type 0
    Done i x r = IsFinishedRule g (rules_of w.items) f keys x (places i) r

    -- the rule of a call stands where the called one does
    span_of_called : (n : Text) (args : Closeds) (i : ℕ) (q : Rule) → Done i (Closed.call n args None) q
        → (r : Rule) × Among (rules_of w.items) r × (r.name ≡ n) × (q.span ≡ r.span)
    span_of_called n args i q (written, c, m) =
        (written, c.among, (rule_there g n (rule_between written) c.is_rule).1, m.span)

    span_of_rule : (n : Text) (args : Closeds) (q : Rule) → Among keys (Closed.call n args None) → Among (rules_of expanded.items) q
        → q.name ≡ f (Closed.call n args None)
        → (r : Rule) × Among (rules_of w.items) r × (r.name ≡ n) × (q.span ≡ r.span)
    span_of_rule n args q k i e =
        let u = rule_of_some Done f (λ j x r m. (finished_name g (rules_of w.items) f keys x (places j) r m).0) 0 keys made done q
        (subst (λ rs. Among rs q) (rules_of_made w.items made) i) in
        let name : q.name ≡ f u.1 = (finished_name g (rules_of w.items) f keys u.1 (places u.0) q u.3).0 in
        let same : u.1 ≡ Closed.call n args None = names.apart u.1 (Closed.call n args None) u.2 k (sym name ∙ e) in
        span_of_called n args u.0 q (subst (λ x. Done u.0 x q) same u.3)

    -- that of a repeat, a group or a lookaround stands where this is met
    abbrev Placed : ℕ → Closed → Rule → Type 0
    Placed i x r = Done i x r × (IsShapeKey x → IsKeyPlace g x (places i))

    span_of_shape : (x : Closed) (q : Rule) → IsShapeKey x → Among keys x → Among (rules_of expanded.items) q → q.name ≡ f x
        → IsKeyPlace g x q.span
    span_of_shape x q shape k i e =
        let u = rule_of_some Placed f (λ j y r m. (finished_name g (rules_of w.items) f keys y (places j) r m.0).0) 0 keys made
        (rules_placed g places Done 0 keys made done placed) q (subst (λ rs. Among rs q) (rules_of_made w.items made) i) in
        let name : q.name ≡ f u.1 = (finished_name g (rules_of w.items) f keys u.1 (places u.0) q u.3.0).0 in
        let same : u.1 ≡ x = names.apart u.1 x u.2 k (sym name ∙ e) in
        let done_so = subst (λ y. Placed u.0 y q) same u.3 in
        subst (IsKeyPlace g x) (sym (finished_place g (rules_of w.items) f keys x (places u.0) q shape done_so.0)) (done_so.1 shape)

    -- and so does each of its alternatives
    stands_before : (q : Rule) (b : Alternative) → Among (rules_of expanded.items) q → Among q.alternatives b
        → IsMadeFrom (rules_of w.items) q b ⊎ (b.span ≡ q.span) × IsAddedOrigin b.origin
    stands_before q b i j =
        let u = rule_of_some Done f (λ j x r m. (finished_name g (rules_of w.items) f keys x (places j) r m).0) 0 keys made done q
        (subst (λ rs. Among rs q) (rules_of_made w.items made) i) in
        finished_stands g (rules_of w.items) f keys u.1 (places u.0) q u.3 b j

    -- that of a call has the attributes of the called one, that of a repeat, a group or a lookaround its own
    attributes_of_called : (n : Text) (args : Closeds) (i : ℕ) (q : Rule) → Done i (Closed.call n args None) q
        → (r : Rule) × Among (rules_of w.items) r × (r.name ≡ n) × (q.attributes ≡ r.attributes)
    attributes_of_called n args i q (written, c, m) =
        (written, c.among, (rule_there g n (rule_between written) c.is_rule).1, m.attributes)

    rule_of_key : (x : Closed) (q : Rule) → Among keys x → Among (rules_of expanded.items) q → q.name ≡ f x → (i : ℕ) × Done i x q
    rule_of_key x q k i e =
        let u = rule_of_some Done f (λ j y r m. (finished_name g (rules_of w.items) f keys y (places j) r m).0) 0 keys made done q
        (subst (λ rs. Among rs q) (rules_of_made w.items made) i) in
        let name : q.name ≡ f u.1 = (finished_name g (rules_of w.items) f keys u.1 (places u.0) q u.3).0 in
        let same : u.1 ≡ x = names.apart u.1 x u.2 k (sym name ∙ e) in
        (u.0, subst (λ y. Done u.0 y q) same u.3)

    attributes_of_rule : (n : Text) (args : Closeds) (q : Rule) → Among keys (Closed.call n args None)
        → Among (rules_of expanded.items) q → q.name ≡ f (Closed.call n args None)
        → (r : Rule) × Among (rules_of w.items) r × (r.name ≡ n) × (q.attributes ≡ r.attributes)
    attributes_of_rule n args q k i e =
        let u = rule_of_key (Closed.call n args None) q k i e in attributes_of_called n args u.0 q u.1

    attributes_of_shape : (x : Closed) (q : Rule) → IsShapeKey x → Among keys x → Among (rules_of expanded.items) q → q.name ≡ f x
        → q.attributes ≡ added_attributes q.span x
    attributes_of_shape x q shape k i e =
        let u = rule_of_key x q k i e in finished_attributes g (rules_of w.items) f keys x (places u.0) q shape u.1

    -- rules stand in the order of their keys
    rules_from : (k : ℕ) (xs : List Closed) (rs : List Rule) → AreRulesFrom Done k xs rs → map (λ (r : Rule). r.name) rs ≡ map f xs
    rules_from k [] rs e = ap (map (λ (r : Rule). r.name)) e
    rules_from k (x ∷ xs) rs (r, rest, e, m, more) =
        ap (map (λ (q : Rule). q.name)) e
        ∙ ap₂ (λ (n : Text) (l : List Text). n ∷ l) (finished_name g (rules_of w.items) f keys x (places k) r m).0
        (rules_from (k + 1) xs rest more)

    pub macro_result : IsMacroResult finds w expanded
    macro_result =
        let h = grammar_between finds expanded in
        let rules = finished_key_rules finds w f keys right.calls places made right.flat right.table once names.apart names.own done in
        let expansion = table_expansion g h f right.depth right.calls keys (λ n r i. right.flat r (rule_there g n r i).0) right.found
        right.table rules in
        record {
          key_of = f;
          keys = keys;
          expansion = expansion;
          types = finished_declarations finds w f keys right.calls places made right.flat right.table once names.apart names.own done;
          expanded = finished_expanded finds w f keys right.calls places made right.flat right.table once names.apart names.own done;
          name_of = nonterminal_name w.prefix f;
          naming = named_by_use g right.flat keys (keys_found keys right) right.in_order f given w.prefix
              (expansion_named g h f keys w.prefix names expansion ready.prefix);
          named = λ x i. refl;
          rule_spans = span_of_rule;
          key_spans = span_of_shape;
          rule_attributes = attributes_of_rule;
          key_attributes = attributes_of_shape;
          in_order = right.in_order;
          rule_order = ap (map (λ (r : Rule). r.name)) (rules_of_made w.items made) ∙ rules_from 0 keys made done;
          alternative_spans = stands_before;
          span = refl;
          prefix = refl;
          attributes = refl;
          block = block_same w.items expanded.items (others_stay w.items made);
          entries = entries_same w.items expanded.items (others_stay w.items made);
        }

  -- the rules that are written under names of keys
  pub written_result : IsReadyForMacros finds w → (keys : List Closed) → HasRightKeys finds [] w keys → HasEachOnce keys
      → (names : List Text) → HoldKeyNames g keys names → names ≡ key_names_of (rules_of w.items) keys → (places : ℕ → TextSpan)
      → ArePlacedFrom g places 0 keys → (made : List Rule) → AreRulesUnderNames finds [] w keys names places made
      → IsMacroResult finds w (grammar_with_rules w made)
  written_result ready keys right once names (f, is, are) in_turn places placed made under =
      macro_result ready keys right once f are
      (sym is ∙ in_turn ∙ ap (λ ts. key_names_from (λ t. times_taken t ts) keys) (texts_between (rules_of w.items))) places placed made
      (under right f (sym is))

  -- the same of what is answered, by a table under no features
  pub written_ok : {T E : Type 0} (view : T → List Rule) (answer : Result T E) (features : List Text) → features ≡ []
      → (keys : List Closed) → HasEachOnce keys → (names given : List Text) → given ≡ names
      → (IsNameable g → HasFoundKeys g keys → HoldKeyNames g keys names) → names ≡ key_names_of (rules_of w.items) keys
      → (places : ℕ → TextSpan)
      → (HasRightKeys finds [] w keys → ArePlacedFrom g places 0 keys)
      → IfOk answer (λ made. AreRulesUnderNames finds features w keys given places (view made))
      → IfOk answer (λ made. IsReadyForMacros finds w → HasRightKeys finds [] w keys
      → IsMacroResult finds w (grammar_with_rules w (view made)))
  written_ok view (Ok made) features none keys once names given same hold in_turn places placed under = λ ready right.
      written_result ready keys right once names (hold ready.nameable (keys_found keys right)) in_turn places (placed right) (view made)
      (subst (λ l. AreRulesUnderNames finds [] w keys l places (view made)) same
      (subst (λ fs. AreRulesUnderNames finds fs w keys given places (view made)) none under))
  written_ok view (Err e) features none keys once names given same hold in_turn places placed under = under

  -- and of what is told
  pub told_of_keys : {T : Type 0} (deep : Text → Bool) (answer : Result T NormFault) (features : List Text) → features ≡ []
      → (keys : List Closed) → IfErr answer (TellsOfRightKeys finds deep features w keys)
      → IfErr answer (λ fault. HasRightKeys finds [] w keys → TellsOfMadeCall g deep fault)
  told_of_keys deep (Ok made) features none keys told = told
  told_of_keys deep (Err fault) features none keys told =
      subst (λ fs. TellsOfRightKeys finds deep fs w keys fault) none told

  -- the rules of keys that were found
  pub made_of_found : {T E : Type 0} (view : T → List Rule) (answer : Result T E) (keys : List Closed)
      → (IsReadyForMacros finds w → HasRightKeys finds [] w keys)
      → IfOk answer (λ made. IsReadyForMacros finds w → HasRightKeys finds [] w keys
      → IsMacroResult finds w (grammar_with_rules w (view made)))
      → IfOk answer (λ made. IsReadyForMacros finds w → IsMacroResult finds w (grammar_with_rules w (view made)))
  made_of_found view (Ok made) keys found h = λ ready. h ready (found ready)
  made_of_found view (Err e) keys found h = h

  pub fault_of_found : {T : Type 0} (deep : Text → Bool) (limit : ℕ) (answer : Result T NormFault) (keys : List Closed)
      → (IsReadyForMacros finds w → HasRightKeys finds [] w keys)
      → IfErr answer (λ fault. HasRightKeys finds [] w keys → TellsOfMadeCall g deep fault)
      → IfErr answer (IsMacroFault finds deep limit w)
  fault_of_found deep limit (Ok made) keys found h = h
  fault_of_found deep limit (Err fault) keys found h = told_condition finds deep limit w fault (λ ready. h (found ready))

-- what holds anyway holds of an answer
pub answered : {T E P : Type 0} (answer : Result T E) → P → IfOk answer (λ made. P)
answered (Ok made) p = p
answered (Err e) p = tt
