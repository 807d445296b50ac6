-- Equations of rules as steps of derivations of types, both ways; for the search for types.
use Rattle.std.specs.Prelude.{Option, Some, None, option_map, map, filter, length}
use Rattle.std.proofs.Common.{◌≡◌, ℕ, zero, suc, List, [], ◌∷◌, refl, ap, sym, ◌∙◌, subst, Bool, true}
use Rattle.std.proofs.Common.{false, cond, inl, inr}
use Rattle.lalrpop_grammar_symbols.specs.Symbols.{Text, Terminal, Closed, Closeds, syms}
use Rattle.lalrpop_grammar.specs.WrittenGrammar.{Action, Alternative, Condition, Grammar, Rule, Ty, rules_of}
use Rattle.lalrpop_grammar_language.specs.Among.{Among}
use Rattle.lalrpop_grammar_language.specs.Enabled.{Choice, EnabledGrammar, EnabledRule, IsRule, choice_of, has_name}
use Rattle.lalrpop_grammar_language.specs.Levels.{Rank, allowed_level, loosest, ranked_choices}
use Rattle.lalrpop_grammar_language.specs.Closing.{occurrences_in, right_side}
use Rattle.lalrpop_grammar_language.specs.Conditions.{Holds}
use Rattle.lalrpop_grammar_language.specs.Admitting.{bind}
use Rattle.lalrpop_grammar_language.specs.Expansion.{InExpansion, Nonterminal}
use Rattle.lalrpop_grammar_language.proofs.ComparisonLemmas.{same_text-refl}
use Rattle.lalrpop_grammar_language.proofs.PlaceLemmas.{among_filter, among_map, same_text-eq}
use Rattle.lalrpop_norm_theory.specs.Between.{grammar_between, rule_between, with_origins}
use Rattle.lalrpop_norm_theory.specs.Premises.{IsExpanded}
use Rattle.lalrpop_norm_theory.specs.Types.{ByDefault, CallStep, GroundType, IsGrounded, IsGroundedIn, TypeStep}
use Rattle.lalrpop_norm_theory.specs.Types.{chosen_or_all, text_type}
use Rattle.lalrpop_grammar_language.proofs.AmongLemmas.{flat_map_among}
use Rattle.lalrpop_grammar_language.proofs.AmongLemmas.{map_among}
use Rattle.lalrpop_grammar_language.proofs.AmongLemmas.{among_flat_map}
use Rattle.lalrpop_norm_theory.proofs.LevelLemmas.{keeps, no_loosest, ranked_flat}
use Rattle.lalrpop_norm_theory.proofs.TypeLemmas.{step_grounded, step_wider}
use Rattle.lalrpop_norm_theory.proofs.TypeListLemmas.{AreTypedOver, tuple_over}
use Rattle.lalrpop_norm_tyinfer.specs.TypesByTable.{KnownNames, RuleTypes, each_ground_type, known_names, tuple_of_types}
use Rattle.lalrpop_norm_tyinfer.specs.Equations.{AllAgree, TypeEquation, TypeSource, equations_by}
use Rattle.lalrpop_norm_tyinfer.specs.Equations.{equations_of_rule, is_default_action, source_ground_type, type_equations}
use Rattle.lalrpop_norm_tyinfer.specs.TypeFaults.{rule_symbol}
use Rattle.lalrpop_norm_tyinfer.proofs.ClosedTypeLemmas.{HasGroundType, alternative_types, names_between}
use Rattle.lalrpop_norm_tyinfer.proofs.ExpandedLemmas.{expanded_symbols, no_allowed, no_bound, ranked_among, reached_key, rule_among}
use Rattle.lalrpop_norm_tyinfer.proofs.SourceTypeLemmas.{tuple_from, tuple_to, written_from, written_to}

names_same : (rs : List Rule) → map (λ r. r.name) (map rule_between rs) ≡ map (λ r. r.name) rs
names_same [] = refl
names_same (r ∷ rs) = ap (λ l. r.name ∷ l) (names_same rs)

no_code : (a : Action) → is_default_action a ≡ true → a ≡ Action.default
no_code Action.default e = refl
no_code (Action.user t) e = absurd (let wrong : ⊥ = cc in wrong)
no_code (Action.fallible t) e = absurd (let wrong : ⊥ = cc in wrong)
no_code Action.lookahead e = absurd (let wrong : ⊥ = cc in wrong)
no_code Action.lookbehind e = absurd (let wrong : ⊥ = cc in wrong)

-- each equation of a list that agrees
pub agrees_at : (k : KnownNames) (table : RuleTypes) (es : List TypeEquation) (e : TypeEquation) (t : GroundType) → AllAgree k table es
    → Among es e → source_ground_type k table e.source ≡ Some t → table e.rule.name ≡ Some t
agrees_at k table [] e t h i f = absurd i
agrees_at k table (d ∷ es) e t h (inl same) f =
    subst (λ (x : TypeEquation). source_ground_type k table x.source ≡ Some t → table x.rule.name ≡ Some t) same (h.0 t) f
agrees_at k table (d ∷ es) e t h (inr i) f = agrees_at k table es e t h.1 i f

-- the rule of an equation is one of the grammar's
equation_of_rule : (r : Rule) (o : Option Ty) (e : TypeEquation) → Among (equations_by r o) e → e.rule ≡ r
equation_of_rule r (Some y) e (inl same) = sym (ap (λ (x : TypeEquation). x.rule) same)
equation_of_rule r (Some y) e (inr i) = absurd i
equation_of_rule r None e i =
    let m = among_map (λ (a : Alternative). record { rule = r; source = TypeSource.symbols a.expr })
    (filter (λ (a : Alternative). is_default_action a.action) r.alternatives) e i in
    sym (ap (λ (x : TypeEquation). x.rule) m.2)

-- the rule of a type equation of the grammar is one of its rules
pub equation_rule : (h : Grammar) (e : TypeEquation) → Among (type_equations h) e → Among (rules_of h.items) e.rule
equation_rule h e i =
    let m = among_flat_map equations_of_rule (rules_of h.items) e i in
    subst (λ r. Among (rules_of h.items) r) (sym (equation_of_rule m.0 m.0.declared e m.2)) m.1

-- an equation of the grammar is one of its own rule
pub equation_own : (h : Grammar) (e : TypeEquation) → Among (type_equations h) e → Among (equations_of_rule e.rule) e
equation_own h e i =
    let m = among_flat_map equations_of_rule (rules_of h.items) e i in
    subst (λ r. Among (equations_of_rule r) e) (sym (equation_of_rule m.0 m.0.declared e m.2)) m.2

-- where each rule stands for its name, a rule is found by it

abbrev StandForNames : List Rule → Type 0
StandForNames rs = (r : Rule) → Among rs r → filter (has_name r.name) (map rule_between rs) ≡ rule_between r ∷ []

not_behind : (n : Text) (x : EnabledRule) (xs : List EnabledRule) → has_name n x ≡ true
    → filter (has_name n) (x ∷ xs) ≡ x ∷ [] → (y : EnabledRule) → Among xs y → has_name n y ≡ true → ⊥
not_behind n x xs first e y i named = go (has_name n x) first e
  where
    go : (b : Bool) → b ≡ true → cond b (x ∷ filter (has_name n) xs) (filter (has_name n) xs) ≡ x ∷ [] → ⊥
    go true f h =
        let rest : filter (has_name n) xs ≡ [] = cc in
        subst (λ l. Among l y) rest (keeps (has_name n) xs y i named)
    go false f h = absurd (let wrong : ⊥ = cc in wrong)

pub one_by_name : (rs : List Rule) → StandForNames rs → (a b : Rule) → Among rs a → Among rs b → a.name ≡ b.name → a ≡ b
one_by_name [] h a b i j e = absurd i
one_by_name (r ∷ rs) h a b (inl f) (inl k) e = sym f ∙ k
one_by_name (r ∷ rs) h a b (inl f) (inr j) e =
    absurd (not_behind r.name (rule_between r) (map rule_between rs) (same_text-refl r.name) (h r (inl refl)) (rule_between b)
    (map_among rule_between rs b j) (named (ap (λ (x : Rule). x.name) f ∙ e)))
  where
    named : r.name ≡ b.name → has_name r.name (rule_between b) ≡ true
    named same = ap (λ n. has_name n (rule_between b)) same ∙ same_text-refl b.name
one_by_name (r ∷ rs) h a b (inr i) (inl k) e =
    absurd (not_behind r.name (rule_between r) (map rule_between rs) (same_text-refl r.name) (h r (inl refl)) (rule_between a)
    (map_among rule_between rs a i) (named (ap (λ (x : Rule). x.name) k ∙ sym e)))
  where
    named : r.name ≡ a.name → has_name r.name (rule_between a) ≡ true
    named same = ap (λ n. has_name n (rule_between a)) same ∙ same_text-refl a.name
one_by_name (r ∷ rs) h a b (inr i) (inr j) e = one_by_name rs (λ q k. behind q k) a b i j e
  where
    behind : (q : Rule) → Among rs q → filter (has_name q.name) (map rule_between rs) ≡ rule_between q ∷ []
    behind q k = go (has_name q.name (rule_between r)) refl (h q (inr k))
      where
        go : (c : Bool) → has_name q.name (rule_between r) ≡ c
            → cond c (rule_between r ∷ filter (has_name q.name) (map rule_between rs))
            (filter (has_name q.name) (map rule_between rs)) ≡ rule_between q ∷ []
            → filter (has_name q.name) (map rule_between rs) ≡ rule_between q ∷ []
        go false f m = m
        go true f m =
            let rest : filter (has_name q.name) (map rule_between rs) ≡ [] = cc in
            absurd (subst (λ l. Among l (rule_between q)) rest
            (keeps (has_name q.name) (map rule_between rs) (rule_between q) (map_among rule_between rs q k) (same_text-refl q.name)))

module _ (finds : Text → Text → Option Bool) (h : Grammar) (w : IsExpanded (grammar_between finds h)) where
  abbrev g : EnabledGrammar
  g = grammar_between finds h

  -- no two rules share a name
  pub rule_by_name : (a b : Rule) → Among (rules_of h.items) a → Among (rules_of h.items) b → a.name ≡ b.name → a ≡ b
  rule_by_name a b i j e =
      one_by_name (rules_of h.items) (λ r k. w.rules (rule_between r) (map_among rule_between (rules_of h.items) r k)) a b i j e

  names : names_between g ≡ known_names h
  names = ap (λ l. record { rules = l; bares = g.bares }) (names_same (rules_of h.items))

  between : (r : Rule) → Among (rules_of h.items) r → Among g.rules (rule_between r)
  between r i = map_among rule_between (rules_of h.items) r i

  -- a rule of the grammar is in the expansion
  named : (n : Text) (r : EnabledRule) → IsRule g n r → r.name ≡ n
  named n r e =
      let a = among_filter (has_name n) g.rules r (subst (λ l. Among l r) (sym e) (inl refl)) in same_text-eq r.name n a.1

  in_expansion : (r : Rule) → Among (rules_of h.items) r → InExpansion g (Nonterminal.closed (rule_symbol r.name))
  in_expansion r i =
      let q = rule_between r in
      let a = between r i in
      (0, inr (q, None, w.rules q a, w.no_macros q a, w.no_levels q a, refl))

  abbrev IsStepOf : RuleTypes → GroundType → TypeEquation → Type 0
  IsStepOf table t x =
      source_ground_type (known_names h) table x.source ≡ Some t → CallStep g (HasGroundType table) x.rule.name Closeds.none None t

  module _ (table : RuleTypes) where
    declared_step : (r : Rule) → Among (rules_of h.items) r → (y : Ty) → r.declared ≡ Some y → (t : GroundType)
        → source_ground_type (known_names h) table (TypeSource.declared y) ≡ Some t
        → CallStep g (HasGroundType table) r.name Closeds.none None t
    declared_step r i y e t f =
        let q = rule_between r in
        let a = between r i in
        inl (record {
          rule = q;
          is_rule = w.rules q a;
          written = y;
          declared = e;
          type_is = written_from g w table (bind q Closeds.none) (no_bound g w q a) q.name (λ k. loosest q)
              (λ k. no_loosest q (w.no_levels q a)) y t
              (subst (λ k. source_ground_type k table (TypeSource.declared y) ≡ Some t) (sym names) f);
        })

    holds_always : (q : EnabledRule) (c : Option Condition) → c ≡ None → Holds g (bind q Closeds.none) c
    holds_always q c e = subst (λ d. Holds g (bind q Closeds.none) d) (sym e) tt

    -- an alternative without user code gives the rule its type
    alternative_default : (r : Rule) → Among (rules_of h.items) r → r.declared ≡ None → (x : Alternative) → Among r.alternatives x
        → is_default_action x.action ≡ true → (t : GroundType)
        → source_ground_type (known_names h) table (TypeSource.symbols x.expr) ≡ Some t
        → (b : ByDefault (HasGroundType table) g r.name Closeds.none None t) × (b.choice.0.expr ≡ x.expr)
    alternative_default r i e x j d t f =
        let q = rule_between r in
        let a = between r i in
        let c = choice_of (x.origin, x) in
        let p : Choice × Option Rank = (c, None) in
        let one : Among q.choices c =
        map_among choice_of (with_origins r.alternatives) (x.origin, x)
        (map_among (λ (y : Alternative). (y.origin, y)) r.alternatives x j) in
        let ranked : Among (ranked_choices q) p =
        subst (λ l. Among l p) (sym (ranked_flat q (w.no_levels q a))) (map_among (λ (y : Choice). (y, None)) q.choices c one) in
        let level_at = λ (k : ℕ). allowed_level q None (occurrences_in (bind q Closeds.none) q.name (syms c.expr)) k in
        let found : source_ground_type (names_between g) table (TypeSource.symbols x.expr) ≡ Some t =
        subst (λ k. source_ground_type k table (TypeSource.symbols x.expr) ≡ Some t) (sym names) f in (
          record {
            rule = q;
            choice = p;
            fits = record {
              rule = w.rules q a;
              arguments = sym (ap length (w.no_macros q a));
              written = ranked;
              leveled = sym (w.no_levels q a);
              holds = holds_always q c.condition (w.choices q c a one).unconditional;
            };
            undeclared = e;
            level_is = refl;
            no_code = no_code x.action d;
            type_is = tuple_from table _ t
                (ap (λ l. option_map tuple_of_types (each_ground_type l))
                (alternative_types g w table (bind q Closeds.none) (no_bound g w q a) q.name level_at
                (λ k. no_loosest q (w.no_levels q a)) 0 c.expr (expanded_symbols g w q a p ranked))
                ∙ found);
          },
          refl,
        )

    alternative_step : (r : Rule) → Among (rules_of h.items) r → r.declared ≡ None → (x : Alternative) → Among r.alternatives x
        → is_default_action x.action ≡ true → (t : GroundType)
        → source_ground_type (known_names h) table (TypeSource.symbols x.expr) ≡ Some t
        → CallStep g (HasGroundType table) r.name Closeds.none None t
    alternative_step r i e x j d t f = inr (inl (alternative_default r i e x j d t f).0)

    -- an equation's type is one step of a derivation
    pub equation_step : (e : TypeEquation) → Among (type_equations h) e → (t : GroundType)
        → source_ground_type (known_names h) table e.source ≡ Some t
        → CallStep g (HasGroundType table) e.rule.name Closeds.none None t
    equation_step e i t f =
        let m = among_flat_map equations_of_rule (rules_of h.items) e i in
        go m.0 m.1 m.0.declared refl m.2
      where
        go : (r : Rule) → Among (rules_of h.items) r → (o : Option Ty) → r.declared ≡ o → Among (equations_by r o) e
            → CallStep g (HasGroundType table) e.rule.name Closeds.none None t
        go r j (Some y) d (inl same) = subst (λ x. IsStepOf table t x) same (λ k. declared_step r j y d t k) f
        go r j (Some y) d (inr k) = absurd k
        go r j None d k =
            let m = among_map (λ (a : Alternative). record { rule = r; source = TypeSource.symbols a.expr })
            (filter (λ (a : Alternative). is_default_action a.action) r.alternatives) e k in
            let n = among_filter (λ (a : Alternative). is_default_action a.action) r.alternatives m.0 m.1 in
            subst (λ x. IsStepOf table t x) m.2 (λ z. alternative_step r j d m.0 n.0 n.1 t z) f

    -- a step of a derivation is an equation of that rule
    pub step_equation : (n : Text) (t : GroundType) → CallStep g (HasGroundType table) n Closeds.none None t
        → (e : TypeEquation) × Among (type_equations h) e × (e.rule.name ≡ n)
        × (source_ground_type (known_names h) table e.source ≡ Some t)
    step_equation n t (inl s) =
        let a = rule_among g n s.rule s.is_rule in
        let m = among_map rule_between (rules_of h.items) s.rule a in
        let r = m.0 in
        let q = rule_between r in
        let e : TypeEquation = record { rule = r; source = TypeSource.declared s.written } in
        let declared : r.declared ≡ Some s.written = ap (λ (x : EnabledRule). x.declared) m.2 ∙ s.declared in
        let there : Among (equations_of_rule r) e = subst (λ o. Among (equations_by r o) e) (sym declared) (inl refl) in
        let found = written_to g w table (bind s.rule Closeds.none) (no_bound g w s.rule a) s.rule.name (λ k. loosest s.rule)
        (λ k. no_loosest s.rule (w.no_levels s.rule a)) s.written t s.type_is in (
          e,
          flat_map_among equations_of_rule (rules_of h.items) r e m.1 there,
          ap (λ (x : EnabledRule). x.name) m.2 ∙ named n s.rule s.is_rule,
          subst (λ k. source_ground_type k table (TypeSource.declared s.written) ≡ Some t) names found,
        )
    step_equation n t (inr (inl s)) =
        let a = rule_among g n s.rule s.fits.rule in
        let m = among_map rule_between (rules_of h.items) s.rule a in
        let r = m.0 in
        let p = s.choice in
        let here : Among (rule_between r).choices p.0 =
        subst (λ (x : EnabledRule). Among x.choices p.0) (sym m.2) (ranked_among g w s.rule a p s.fits.written) in
        let y = among_map choice_of (with_origins r.alternatives) p.0 here in
        let z = among_map (λ (x : Alternative). (x.origin, x)) r.alternatives y.0 y.1 in
        let x = z.0 in
        let same : choice_of (x.origin, x) ≡ p.0 = ap choice_of z.2 ∙ y.2 in
        let action : x.action ≡ Action.default = ap (λ (c : Choice). c.action) same ∙ s.no_code in
        let expr : x.expr ≡ p.0.expr = ap (λ (c : Choice). c.expr) same in
        let e : TypeEquation = record { rule = r; source = TypeSource.symbols x.expr } in
        let undeclared : r.declared ≡ None = ap (λ (q : EnabledRule). q.declared) m.2 ∙ s.undeclared in
        let kept = keeps (λ (b : Alternative). is_default_action b.action) r.alternatives x z.1 (ap is_default_action action) in
        let there : Among (equations_of_rule r) e =
        subst (λ o. Among (equations_by r o) e) (sym undeclared)
        (map_among (λ (b : Alternative). record { rule = r; source = TypeSource.symbols b.expr })
        (filter (λ (b : Alternative). is_default_action b.action) r.alternatives) x kept) in
        let binding = bind s.rule Closeds.none in
        let level_at = λ (k : ℕ). allowed_level s.rule p.1 (occurrences_in binding s.rule.name (syms p.0.expr)) k in
        let types =
        alternative_types g w table binding (no_bound g w s.rule a) s.rule.name level_at
        (λ k. no_allowed g w s.rule a p s.fits.written (occurrences_in binding s.rule.name (syms p.0.expr)) k) 0 p.0.expr
        (expanded_symbols g w s.rule a p s.fits.written) in
        let found : source_ground_type (names_between g) table (TypeSource.symbols p.0.expr) ≡ Some t =
        sym (ap (λ l. option_map tuple_of_types (each_ground_type l)) types)
        ∙ tuple_to table (chosen_or_all (right_side g s.rule binding p)) t s.type_is in (
          e,
          flat_map_among equations_of_rule (rules_of h.items) r e m.1 there,
          ap (λ (x : EnabledRule). x.name) m.2 ∙ named n s.rule s.fits.rule,
          subst (λ k. source_ground_type k table (TypeSource.symbols x.expr) ≡ Some t) names
              (subst (λ xs. source_ground_type (names_between g) table (TypeSource.symbols xs) ≡ Some t) (sym expr) found),
        )
    step_equation n t (inr (inr s)) = let wrong : None ≡ Some s.from = s.from_is in absurd (let no : ⊥ = cc in no)

    -- what has a type by a table of grounded types has it
    pub typed_symbol : ((n : Text) (t : GroundType) → table n ≡ Some t → IsGrounded g (rule_symbol n) t)
        → (x : Closed) (t : GroundType)
        → HasGroundType table x t → IsGrounded g x t
    typed_symbol right (Closed.terminal (Terminal.quoted u)) t e = (1, (let same : t ≡ text_type = cc in same))
    typed_symbol right (Closed.terminal (Terminal.regex u)) t e = (1, (let same : t ≡ text_type = cc in same))
    typed_symbol right (Closed.terminal (Terminal.bare u)) t e = (1, (let same : t ≡ text_type = cc in same))
    typed_symbol right (Closed.terminal Terminal.error) t e = absurd (let no : ⊥ = cc in no)
    typed_symbol right (Closed.call n Closeds.none None) t e = right n t e
    typed_symbol right (Closed.call n Closeds.none (Some l)) t e = absurd (let no : ⊥ = cc in no)
    typed_symbol right (Closed.call n (Closeds.more x xs) l) t e = absurd (let no : ⊥ = cc in no)
    typed_symbol right (Closed.repeat op x) t e = absurd (let no : ⊥ = cc in no)
    typed_symbol right (Closed.group xs) t e = absurd (let no : ⊥ = cc in no)
    typed_symbol right (Closed.choose x) t e = let k = typed_symbol right x t e in (suc k.0, k.1)
    typed_symbol right (Closed.name m n x) t e = let k = typed_symbol right x t e in (suc k.0, k.1)
    typed_symbol right Closed.lookahead t e = absurd (let no : ⊥ = cc in no)
    typed_symbol right Closed.lookbehind t e = absurd (let no : ⊥ = cc in no)
    typed_symbol right Closed.faulty t e = absurd (let no : ⊥ = cc in no)

    -- so what an equation gives by such a table is a type of its rule
    pub equation_grounded : ((n : Text) (t : GroundType) → table n ≡ Some t → IsGrounded g (rule_symbol n) t) → (e : TypeEquation)
        → Among (type_equations h) e → (t : GroundType) → source_ground_type (known_names h) table e.source ≡ Some t
        → IsGrounded g (rule_symbol e.rule.name) t
    equation_grounded right e i t f =
        step_grounded g (rule_symbol e.rule.name) t
        (step_wider g (HasGroundType table) (IsGrounded g) (λ x u k. typed_symbol right x u k) (rule_symbol e.rule.name) t
        (in_expansion e.rule (equation_rule h e i), equation_step e i t f))

    all_typed : ((n : Text) (t : GroundType) → table n ≡ Some t → IsGrounded g (rule_symbol n) t) → (xs : List Closed)
        → AreTypedOver (HasGroundType table) (IsGrounded g) xs xs
    all_typed right [] = tt
    all_typed right (x ∷ xs) = (λ t i. typed_symbol right x t i, all_typed right xs)

    -- a default alternative that gives its rule the type, with the symbols of the equation
    abbrev pub IsDefaultOfSource : Text → GroundType → TypeSource → Type 0
    IsDefaultOfSource n t s =
        (b : ByDefault (IsGrounded g) g n Closeds.none None t) × (TypeSource.symbols b.choice.0.expr ≡ s)

    -- so an equation of a rule that declares no type is one of an alternative of it
    pub equation_default : ((n : Text) (t : GroundType) → table n ≡ Some t → IsGrounded g (rule_symbol n) t) → (r : Rule)
        → Among (rules_of h.items) r → r.declared ≡ None → (e : TypeEquation) → Among (equations_of_rule r) e → (t : GroundType)
        → source_ground_type (known_names h) table e.source ≡ Some t → IsDefaultOfSource r.name t e.source
    equation_default right r i undeclared e k t f =
        let m = among_map (λ (a : Alternative). record { rule = r; source = TypeSource.symbols a.expr })
        (filter (λ (a : Alternative). is_default_action a.action) r.alternatives) e
        (subst (λ (o : Option Ty). Among (equations_by r o) e) undeclared k) in
        let n = among_filter (λ (a : Alternative). is_default_action a.action) r.alternatives m.0 m.1 in
        let source : TypeSource.symbols m.0.expr ≡ e.source = ap (λ (x : TypeEquation). x.source) m.2 in
        let u = alternative_default r i undeclared m.0 n.0 n.1 t
        (subst (λ s. source_ground_type (known_names h) table s ≡ Some t) (sym source) f) in
        let b = u.0 in
        let side = chosen_or_all (right_side g b.rule (bind b.rule Closeds.none) b.choice) in (
          record {
            rule = b.rule;
            choice = b.choice;
            fits = b.fits;
            undeclared = b.undeclared;
            level_is = b.level_is;
            no_code = b.no_code;
            type_is = tuple_over (HasGroundType table) (IsGrounded g) side side t (all_typed right side) b.type_is;
          },
          ap TypeSource.symbols u.1 ∙ source,
        )

    -- where all equations agree, the table has what one step gives by it
    found_step : AllAgree (known_names h) table (type_equations h) → (x : Closed) (t : GroundType)
        → TypeStep g (HasGroundType table) x t → HasGroundType table x t
    found_step all (Closed.terminal (Terminal.quoted u)) t s = ap Some (sym s)
    found_step all (Closed.terminal (Terminal.regex u)) t s = ap Some (sym s)
    found_step all (Closed.terminal (Terminal.bare u)) t s = ap Some (sym s)
    found_step all (Closed.terminal Terminal.error) t s = absurd s
    found_step all (Closed.call n Closeds.none None) t s =
        let r = step_equation n t s.1 in
        subst (λ m. table m ≡ Some t) r.2 (agrees_at (known_names h) table (type_equations h) r.0 t all r.1 r.3)
    found_step all (Closed.call n Closeds.none (Some l)) t s =
        absurd (reached_key g w s.0.0 (Nonterminal.closed (Closed.call n Closeds.none (Some l))) s.0.1)
    found_step all (Closed.call n (Closeds.more x xs) l) t s =
        absurd (reached_key g w s.0.0 (Nonterminal.closed (Closed.call n (Closeds.more x xs) l)) s.0.1)
    found_step all (Closed.repeat op x) t s = absurd (reached_key g w s.0.0 (Nonterminal.closed (Closed.repeat op x)) s.0.1)
    found_step all (Closed.group xs) t s = absurd (reached_key g w s.0.0 (Nonterminal.closed (Closed.group xs)) s.0.1)
    found_step all (Closed.choose x) t s = s
    found_step all (Closed.name m n x) t s = s
    found_step all Closed.lookahead t s = absurd (reached_key g w s.0.0 (Nonterminal.closed Closed.lookahead) s.0.1)
    found_step all Closed.lookbehind t s = absurd (reached_key g w s.0.0 (Nonterminal.closed Closed.lookbehind) s.0.1)
    found_step all Closed.faulty t s = absurd s

    -- and so it has each grounded type
    pub all_found : AllAgree (known_names h) table (type_equations h) → (k : ℕ) (x : Closed) (t : GroundType)
        → IsGroundedIn g k x t → HasGroundType table x t
    all_found all zero x t d = absurd d
    all_found all (suc k) x t d =
        found_step all x t
        (step_wider g (IsGroundedIn g k) (HasGroundType table) (λ y u e. all_found all k y u e) x t d)
