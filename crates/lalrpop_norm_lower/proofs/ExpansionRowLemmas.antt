-- The rows of an expanded grammar, one for each start and each alternative, are those of its expansion; for lowering.
use Rattle.std.specs.Str.{bytes_eq}
use Rattle.std.specs.Prelude.{Option, Some, None, filter, flat_map, map}
use Rattle.std.proofs.Common.{◌≡◌, ◌≢◌, ◌⊎◌, List, [], ◌∷◌, ◌++◌, refl, ap, ap₂, sym, ◌∙◌, subst}
use Rattle.std.proofs.Common.{cond, Bool, true, false, inl, inr, ◌&&◌}
use Rattle.lalrpop_grammar_symbols.specs.Symbols.{Closed, Closeds, Text}
use Rattle.lalrpop_grammar.specs.WrittenGrammar.{Alternative, Grammar, Origin, Rule, rules_of}
use Rattle.lalrpop_grammar_language.specs.Among.{Among}
use Rattle.lalrpop_grammar_language.specs.Enabled.{Choice, EnabledGrammar, EnabledRule, choice_of, has_name}
use Rattle.lalrpop_grammar_language.specs.Expansion.{GrammarSymbol, InExpansion, IsWrittenProduction, Nonterminal, Produces, RightSide}
use Rattle.lalrpop_grammar_language.specs.Starts.{has_none}
use Rattle.lalrpop_grammar_language.proofs.ComparisonLemmas.{same_text-refl}
use Rattle.lalrpop_grammar_language.proofs.PlaceLemmas.{among_filter, among_map}
use Rattle.lalrpop_norm_theory.specs.Between.{grammar_between, rule_between, with_origins}
use Rattle.lalrpop_norm_theory.specs.Premises.{IsExpanded}
use Rattle.lalrpop_norm_theory.specs.Productions.{IsOriginBefore}
use Rattle.lalrpop_norm_theory.specs.Rows.{AreExpansionRows, Row}
use Rattle.lalrpop_grammar_language.proofs.AmongLemmas.{flat_map_among}
use Rattle.lalrpop_grammar_language.proofs.AmongLemmas.{map_among}
use Rattle.lalrpop_grammar_language.proofs.AmongLemmas.{among_flat_map}
use Rattle.lalrpop_grammar_language.proofs.StepLemmas.{among_right}
use Rattle.lalrpop_grammar_language.proofs.StepLemmas.{among_left}
use Rattle.lalrpop_grammar_language.proofs.OrderLemmas.{among_parts}
use Rattle.lalrpop_norm_theory.proofs.LevelLemmas.{keeps}
use Rattle.lalrpop_norm_tyinfer.proofs.ExpandedLemmas.{IsRuleKey, reached_key}
use Rattle.lalrpop_norm_lower.proofs.EarlierLemmas.{Across, Earlier, earlier_at, earlier_joined, flat_earlier}
use Rattle.lalrpop_norm_lower.proofs.RowLemmas.{produced_by_rule, produced_by_start, rule_nonterminal, rule_produces, rule_there}
use Rattle.lalrpop_norm_lower.proofs.RowLemmas.{side_by_rules, start_produces, start_side, start_there}
use Rattle.lalrpop_norm_lower.specs.Lowered.{AreChoicesInOrder}
use Rattle.lalrpop_norm_lower.specs.LoweredLists.{gets_start, rules_with_starts}
use Rattle.lalrpop_norm_lower.specs.LoweredSymbols.{lowered_name}
use Rattle.lalrpop_grammar_symbols.proofs.BoolLemmas.{and_both}

-- the row by which the start symbol of a rule produces the rule
abbrev pub start_row : Rule → Row
start_row r = (
  record { head = Nonterminal.start r.name; choice = Origin.start },
  GrammarSymbol.nonterminal (rule_nonterminal r.name) ∷ [],
)

-- the row by which the rule of this name produces the symbols of an alternative
abbrev pub alternative_row : Text → Alternative → Row
alternative_row n a = (record { head = rule_nonterminal n; choice = a.origin }, side_by_rules a.expr)

-- the rows of a rule, one for each alternative
abbrev pub rule_rows : Rule → List Row
rule_rows r = map (alternative_row r.name) r.alternatives

-- the rows of rules in lowered order: first those of start symbols, then those of alternatives, rule by rule
abbrev pub lowered_rows : List Rule → List Row
lowered_rows rs = map start_row (rules_with_starts rs) ++ flat_map rule_rows rs

-- no two have one name
abbrev pub HaveOwnNames : Rule → Rule → Type 0
HaveOwnNames r q = r.name ≢ q.name

none_left : (xs : List EnabledRule) (r : EnabledRule) → xs ≡ [] → Among xs r → ⊥
none_left xs r e i = subst (λ l. Among l r) e i

-- where each rule stands for its name, no two have one
pub own_names : (rs : List Rule)
    → ((r : Rule) → Among rs r → filter (has_name r.name) (map rule_between rs) ≡ rule_between r ∷ [])
    → Earlier HaveOwnNames rs
own_names [] h = tt
own_names (r ∷ rs) h = (
  λ q i same. none_left (filter (has_name r.name) (map rule_between rs)) (rule_between q)
      (first (has_name r.name (rule_between r)) (same_text-refl r.name) (h r (inl refl)))
      (keeps (has_name r.name) (map rule_between rs) (rule_between q) (map_among rule_between rs q i)
      (ap (λ n. bytes_eq n r.name) (sym same) ∙ same_text-refl r.name)),
  own_names rs (λ q i. later q i (has_name q.name (rule_between r)) (h q (inr i))),
)
  where
    first : (b : Bool) → b ≡ true
        → cond b (rule_between r ∷ filter (has_name r.name) (map rule_between rs)) (filter (has_name r.name) (map rule_between rs))
        ≡ rule_between r ∷ [] → filter (has_name r.name) (map rule_between rs) ≡ []
    first true e f = cc
    first false e f = cc

    later : (q : Rule) → Among rs q → (b : Bool)
        → cond b (rule_between r ∷ filter (has_name q.name) (map rule_between rs)) (filter (has_name q.name) (map rule_between rs))
        ≡ rule_between q ∷ [] → filter (has_name q.name) (map rule_between rs) ≡ rule_between q ∷ []
    later q i true f =
        let none : filter (has_name q.name) (map rule_between rs) ≡ [] = cc in
        absurd (none_left (filter (has_name q.name) (map rule_between rs)) (rule_between q) none
        (keeps (has_name q.name) (map rule_between rs) (rule_between q) (map_among rule_between rs q i) (same_text-refl q.name)))
    later q i false f = f

-- where each is related to each later one, so it is among those that a filter keeps
pub earlier_kept : {A : Type 0} (R : A → A → Type 0) (f : A → Bool) (xs : List A) → Earlier R xs → Earlier R (filter f xs)
earlier_kept R f [] h = tt
earlier_kept R f (x ∷ xs) h = go (f x) (earlier_kept R f xs h.1)
  where
    go : (b : Bool) → Earlier R (filter f xs) → Earlier R (cond b (x ∷ filter f xs) (filter f xs))
    go true k = (λ y i. let a = among_filter f xs y i in h.0 y a.0, k)
    go false k = k

earlier_mapped : {A B : Type 0} (R : B → B → Type 0) (f : A → B) (xs : List A) → Earlier (λ x y. R (f x) (f y)) xs
    → Earlier R (map f xs)
earlier_mapped R f [] h = tt
earlier_mapped R f (x ∷ xs) h = (
  λ y i. let m = among_map f xs y i in subst (R (f x)) m.2 (h.0 m.0 m.1),
  earlier_mapped R f xs h.1,
)

-- two texts are the same where they are so behind the same front
pub append_same : (front : Text) (m n : Text) → front ++ m ≡ front ++ n → m ≡ n
append_same [] m n e = e
append_same (c ∷ front) m n e = append_same front m n (let f : front ++ m ≡ front ++ n = cc in f)

module _ (finds : Text → Text → Option Bool) (w : Grammar) (expanded : IsExpanded (grammar_between finds w))
    (ordered : (r : EnabledRule) → Among (grammar_between finds w).rules r → AreChoicesInOrder r.choices)
    (free : (r : Rule) (n : Text) → Among (rules_of w.items) r → r.name ≡ w.prefix ++ n → ⊥) where
  abbrev g : EnabledGrammar
  g = grammar_between finds w

  abbrev rs : List Rule
  rs = rules_of w.items

  abbrev name_of : Nonterminal → Text
  name_of = lowered_name w.prefix

  rule_in : (r : Rule) → Among rs r → Among g.rules (rule_between r)
  rule_in r i = map_among rule_between rs r i

  pub names_apart : Earlier HaveOwnNames rs
  names_apart = own_names rs (λ r i. expanded.rules (rule_between r) (rule_in r i))

  -- a rule has a start where it is public
  pub starts_public : (r : Rule) → gets_start r ≡ true → r.public ≡ true
  starts_public r e = let b = and_both r.public (has_none r.parameters) e in b.0

  pub public_starts : (r : Rule) → Among rs r → r.public ≡ true → gets_start r ≡ true
  public_starts r i e =
      ap₂ ◌&&◌ e (ap has_none (expanded.no_macros (rule_between r) (rule_in r i)))

  -- what is among the rows

  start_row_among : (r : Rule) → Among rs r → r.public ≡ true → Among (lowered_rows rs) (start_row r)
  start_row_among r i e =
      among_left (map start_row (rules_with_starts rs)) (flat_map rule_rows rs) (start_row r)
      (map_among start_row (rules_with_starts rs) r (keeps gets_start rs r i (public_starts r i e)))

  alternative_row_among : (r : Rule) (a : Alternative) → Among rs r → Among r.alternatives a
      → Among (lowered_rows rs) (alternative_row r.name a)
  alternative_row_among r a i j =
      among_right (map start_row (rules_with_starts rs)) (flat_map rule_rows rs) (alternative_row r.name a)
      (flat_map_among rule_rows rs r (alternative_row r.name a) i
      (map_among (alternative_row r.name) r.alternatives a j))

  -- a choice of a rule is one of its alternatives
  choice_alternative : (r : Rule) (c : Choice) → Among (rule_between r).choices c
      → (a : Alternative) × Among r.alternatives a × (choice_of (a.origin, a) ≡ c)
  choice_alternative r c i =
      let m = among_map choice_of (with_origins r.alternatives) c i in
      let k = among_map (λ (y : Alternative). (y.origin, y)) r.alternatives m.0 m.1 in
      (k.0, k.1, ap choice_of k.2 ∙ m.2)

  alternative_choice : (r : Rule) (a : Alternative) → Among r.alternatives a → Among (rule_between r).choices (choice_of (a.origin, a))
  alternative_choice r a i =
      map_among choice_of (with_origins r.alternatives) (a.origin, a)
      (map_among (λ (y : Alternative). (y.origin, y)) r.alternatives a i)

  every_start : (n : Text) (o : Origin) (side : RightSide) → Produces g (Nonterminal.start n) o side
      → Among (lowered_rows rs) (record { head = Nonterminal.start n; choice = o }, side)
  every_start n o side h =
      let s = produced_by_start g expanded n o side h in
      let m = among_map rule_between rs s.rule s.among in
      let name : m.0.name ≡ n = ap (λ (q : EnabledRule). q.name) m.2 ∙ s.name_is in
      let row : ◌≡◌ {A = Row} (start_row m.0) (record { head = Nonterminal.start n; choice = o }, side) =
      ap (λ k. (record { head = Nonterminal.start k; choice = Origin.start }, start_side g expanded k)) name
      ∙ ap₂ (λ (p : Origin) (l : RightSide). (record { head = Nonterminal.start n; choice = p }, l)) (sym s.origin_is)
      (sym s.side_is) in
      subst (Among (lowered_rows rs)) row (start_row_among m.0 m.1 (ap (λ (q : EnabledRule). q.public) m.2 ∙ s.public))

  every_rule : (n : Text) (o : Origin) (side : RightSide) → Produces g (rule_nonterminal n) o side
      → Among (lowered_rows rs) (record { head = rule_nonterminal n; choice = o }, side)
  every_rule n o side h =
      let s = produced_by_rule g expanded n o side h in
      let m = among_map rule_between rs s.rule s.among in
      let name : m.0.name ≡ n = ap (λ (q : EnabledRule). q.name) m.2 ∙ s.name_is in
      let k = choice_alternative m.0 s.choice (subst (λ (q : EnabledRule). Among q.choices s.choice) (sym m.2) s.written) in
      let row : ◌≡◌ {A = Row} (alternative_row m.0.name k.0) (record { head = rule_nonterminal n; choice = o }, side) =
      ap (λ z. alternative_row z k.0) name
      ∙ ap₂ (λ (p : Origin) (l : RightSide). (record { head = rule_nonterminal n; choice = p }, l))
      (ap (λ (c : Choice). c.origin) k.2 ∙ sym s.origin_is) (ap (λ (c : Choice). side_by_rules c.expr) k.2 ∙ sym s.side_is) in
      subst (Among (lowered_rows rs)) row (alternative_row_among m.0 k.0 m.1 k.1)

  every_row : (x : Nonterminal) (o : Origin) (side : RightSide) → IsRuleKey x → Produces g x o side
      → Among (lowered_rows rs) (record { head = x; choice = o }, side)
  every_row (Nonterminal.start n) o side k h = every_start n o side h
  every_row (Nonterminal.closed (Closed.call n Closeds.none None)) o side k h = every_rule n o side h
  every_row (Nonterminal.closed (Closed.call n Closeds.none (Some l))) o side k h = absurd k
  every_row (Nonterminal.closed (Closed.call n (Closeds.more z zs) l)) o side k h = absurd k
  every_row (Nonterminal.closed (Closed.terminal t)) o side k h = absurd k
  every_row (Nonterminal.closed (Closed.repeat op z)) o side k h = absurd k
  every_row (Nonterminal.closed (Closed.group zs)) o side k h = absurd k
  every_row (Nonterminal.closed (Closed.choose z)) o side k h = absurd k
  every_row (Nonterminal.closed (Closed.name m n z)) o side k h = absurd k
  every_row (Nonterminal.closed Closed.lookahead) o side k h = absurd k
  every_row (Nonterminal.closed Closed.lookbehind) o side k h = absurd k
  every_row (Nonterminal.closed Closed.faulty) o side k h = absurd k

  -- the row is the expansion's
  abbrev IsRowThere : Row → Type 0
  IsRowThere row = InExpansion g row.0.head × IsWrittenProduction g row.0 row.1

  start_row_there : (row : Row) → Among (map start_row (rules_with_starts rs)) row → IsRowThere row
  start_row_there row i =
      let m = among_map start_row (rules_with_starts rs) row i in
      let k = among_filter gets_start rs m.0 m.1 in
      let public = starts_public m.0 k.1 in
      subst IsRowThere m.2 (
        start_there g expanded (rule_between m.0) (rule_in m.0 k.0) public,
        start_produces g expanded (rule_between m.0) (rule_in m.0 k.0) public,
      )

  rule_row_there : (row : Row) → Among (flat_map rule_rows rs) row → IsRowThere row
  rule_row_there row i =
      let f = among_flat_map rule_rows rs row i in
      let m = among_map (alternative_row f.0.name) f.0.alternatives row f.2 in
      subst IsRowThere m.2 (
        rule_there g expanded (rule_between f.0) (rule_in f.0 f.1),
        rule_produces g expanded (rule_between f.0) (rule_in f.0 f.1) (choice_of (m.0.origin, m.0)) (alternative_choice f.0 m.0 m.1),
      )

  row_there : (row : Row) → Among (map start_row (rules_with_starts rs)) row ⊎ Among (flat_map rule_rows rs) row → IsRowThere row
  row_there row (inl i) = start_row_there row i
  row_there row (inr i) = rule_row_there row i

  -- of two rows of one nonterminal the later has the later choice
  abbrev AreRowsInOrder : Row → Row → Type 0
  AreRowsInOrder row later = name_of row.0.head ≡ name_of later.0.head → IsOriginBefore row.0.choice later.0.choice

  start_rows_ordered : (ss : List Rule) → Earlier HaveOwnNames ss → Earlier (λ r q. AreRowsInOrder (start_row r) (start_row q)) ss
  start_rows_ordered [] h = tt
  start_rows_ordered (r ∷ ss) h =
      (λ q i e. absurd (h.0 q i (append_same w.prefix r.name q.name e)), start_rows_ordered ss h.1)

  alternatives_ordered : (n : Text) (as_ : List Alternative) → AreChoicesInOrder (map choice_of (with_origins as_))
      → Earlier (λ a b. AreRowsInOrder (alternative_row n a) (alternative_row n b)) as_
  alternatives_ordered n [] h = tt
  alternatives_ordered n (a ∷ as_) h = (
    λ b i e. h.0 (choice_of (b.origin, b)) (map_among choice_of (with_origins as_) (b.origin, b)
        (map_among (λ (y : Alternative). (y.origin, y)) as_ b i)),
    alternatives_ordered n as_ h.1,
  )

  rules_across : (qs : List Rule) → Earlier HaveOwnNames qs → Earlier (λ r q. Across AreRowsInOrder (rule_rows r) (rule_rows q)) qs
  rules_across [] h = tt
  rules_across (r ∷ qs) h = (
    λ q i row later j k e.
        let m = among_map (alternative_row r.name) r.alternatives row j in
        let l = among_map (alternative_row q.name) q.alternatives later k in
        absurd (h.0 q i (ap (λ (x : Row). name_of x.0.head) m.2 ∙ e ∙ sym (ap (λ (x : Row). name_of x.0.head) l.2))),
    rules_across qs h.1,
  )

  starts_across : Across AreRowsInOrder (map start_row (rules_with_starts rs)) (flat_map rule_rows rs)
  starts_across row later i j e =
      let m = among_map start_row (rules_with_starts rs) row i in
      let f = among_flat_map rule_rows rs later j in
      let l = among_map (alternative_row f.0.name) f.0.alternatives later f.2 in
      absurd (free f.0 m.0.name f.1
      (ap (λ (x : Row). name_of x.0.head) l.2 ∙ sym e ∙ sym (ap (λ (x : Row). name_of x.0.head) m.2)))

  rows_ordered : Earlier AreRowsInOrder (lowered_rows rs)
  rows_ordered =
      earlier_joined AreRowsInOrder (map start_row (rules_with_starts rs)) (flat_map rule_rows rs)
      (earlier_mapped AreRowsInOrder start_row (rules_with_starts rs)
      (start_rows_ordered (rules_with_starts rs) (earlier_kept HaveOwnNames gets_start rs names_apart)))
      (flat_earlier AreRowsInOrder rule_rows rs
      (λ r i. earlier_mapped AreRowsInOrder (alternative_row r.name) r.alternatives
      (alternatives_ordered r.name r.alternatives (ordered (rule_between r) (rule_in r i))))
      (rules_across rs names_apart))
      starts_across

  -- the rows are those of the expansion
  pub are_expansion_rows : AreExpansionRows g name_of (lowered_rows rs)
  are_expansion_rows = record {
    every = λ label side i p. every_row label.head label.choice side (reached_key g expanded i.0 label.head i.1) p;
    no_other = λ row i. row_there row (among_parts (map start_row (rules_with_starts rs)) (flat_map rule_rows rs) row i);
    in_order = λ i j row later less e f same. earlier_at AreRowsInOrder (lowered_rows rs) rows_ordered i j row later less e f same;
  }
