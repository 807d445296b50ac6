-- The productions of a nonterminal, the roots and the nonterminals of an expansion as lists, with what they mean; for the
-- examples.
use Rattle.std.proofs.Common.{◌≡◌, ℕ, List, [], ◌∷◌, ◌++◌, refl, ap, sym, ◌∙◌, subst, cond, Bool}
use Rattle.std.proofs.Common.{true, false, inl}
use Rattle.std.proofs.Common.{inr, ◌⊎◌, length}
use Rattle.std.specs.Prelude.{Option, Some, None, ◌==◌, ◌&&◌, map, is_some, if◌then◌else◌}
use Rattle.std.proofs.lemmas.Bool.{eqb-true, eq-eqb, and_from, and_parts}
use Rattle.lalrpop_grammar_symbols.specs.Symbols.{Text, Op, Closed, Closeds, closed_list}
use Rattle.lalrpop_grammar.specs.WrittenGrammar.{Origin}
use Rattle.lalrpop_grammar_language.specs.Among.{Among}
use Rattle.lalrpop_grammar_language.specs.Enabled.{EnabledGrammar, EnabledRule, Choice, rules_named}
use Rattle.lalrpop_grammar_language.specs.Levels.{Rank, ranked_choices, loosest, tighter, has_levels}
use Rattle.lalrpop_grammar_language.specs.Closing.{right_side}
use Rattle.lalrpop_grammar_language.specs.Conditions.{Holds}
use Rattle.lalrpop_grammar_language.specs.Admitting.{bind, argument_list, rank_level}
use Rattle.lalrpop_grammar_language.specs.Starts.{has_none}
use Rattle.lalrpop_grammar_language.specs.Expansion.{GrammarSymbol, Nonterminal, RightSide, grammar_symbol, origin_with, ByAlternative}
use Rattle.lalrpop_grammar_language.specs.Expansion.{ByPassDown, Produces}
use Rattle.lalrpop_grammar_language.proofs.ComparisonLemmas.{same_bool, same_bool-eq, same_bool-refl}
use Rattle.lalrpop_grammar_language.proofs.StepLemmas.{among_right}
use Rattle.lalrpop_grammar_language.proofs.StepLemmas.{among_left}
use Rattle.lalrpop_grammar_language.proofs.OrderLemmas.{among_parts}
use Rattle.lalrpop_norm_theory.proofs.ClosedComparisonLemmas.{same_level, same_level-eq, same_level-refl}
use Rattle.lalrpop_grammar_language.proofs.CheckLemmas.{holds, holds-true, true-holds}

-- the productions of a nonterminal

-- what a nonterminal may be replaced by, with the choice
abbrev pub Choices : Type 0
Choices = List (Origin × RightSide)

-- the test of an alternative: it is of that level, ranked just where the rule has levels, and its condition holds
abbrev pub fits : EnabledGrammar → EnabledRule → Closeds → Option ℕ → Choice × Option Rank → Bool
fits g r args level p =
    same_bool (is_some p.1) (has_levels r) && (same_level (rank_level p.1) level && holds g (bind r args) p.0.condition)

abbrev choice_of_side : EnabledGrammar → EnabledRule → Closeds → Choice × Option Rank → Origin × RightSide
choice_of_side g r args p =
    (origin_with (argument_list g.spelled args) p.0.origin, map grammar_symbol (right_side g r (bind r args) p))

abbrev by_alternatives : EnabledGrammar → EnabledRule → Closeds → Option ℕ → List (Choice × Option Rank) → Choices
by_alternatives g r args level [] = []
by_alternatives g r args level (p ∷ ps) =
    if fits g r args level p then choice_of_side g r args p ∷ by_alternatives g r args level ps else by_alternatives g r args level ps

abbrev down_to : Text → Closeds → Option ℕ → Choices
down_to n args None = []
down_to n args (Some to) = (Origin.pass_down, GrammarSymbol.nonterminal (Nonterminal.closed (Closed.call n args (Some to))) ∷ []) ∷ []

abbrev pass_down_of : EnabledRule → Text → Closeds → Option ℕ → Choices
pass_down_of r n args None = []
pass_down_of r n args (Some from) = down_to n args (tighter r from)

abbrev of_call : EnabledGrammar → Text → Closeds → Option ℕ → List EnabledRule → Choices
of_call g n args level [] = []
of_call g n args level (r ∷ []) =
    if length (closed_list args) == length r.parameters
    then by_alternatives g r args level (ranked_choices r) ++ pass_down_of r n args level else []
of_call g n args level (r ∷ s ∷ rs) = []

abbrev start_choice : Text → EnabledRule → Origin × RightSide
start_choice n r = (Origin.start, GrammarSymbol.nonterminal (Nonterminal.closed (Closed.call n Closeds.none (loosest r))) ∷ [])

abbrev of_start : Text → List EnabledRule → Choices
of_start n [] = []
of_start n (r ∷ []) = if has_none r.parameters && r.public then start_choice n r ∷ [] else []
of_start n (r ∷ s ∷ rs) = []

-- the productions of a nonterminal
abbrev pub productions_of : EnabledGrammar → Nonterminal → Choices
productions_of g (Nonterminal.start n) = of_start n (rules_named g n)
productions_of g (Nonterminal.closed (Closed.call n args level)) = of_call g n args level (rules_named g n)
productions_of g (Nonterminal.closed (Closed.repeat Op.plus x)) =
    (Origin.plus_one, grammar_symbol x ∷ [])
    ∷ (Origin.plus_more, GrammarSymbol.nonterminal (Nonterminal.closed (Closed.repeat Op.plus x)) ∷ grammar_symbol x ∷ []) ∷ []
productions_of g (Nonterminal.closed (Closed.repeat Op.star x)) =
    (Origin.star_none, [])
    ∷ (Origin.star_some, GrammarSymbol.nonterminal (Nonterminal.closed (Closed.repeat Op.plus x)) ∷ []) ∷ []
productions_of g (Nonterminal.closed (Closed.repeat Op.question x)) =
    (Origin.opt_some, grammar_symbol x ∷ []) ∷ (Origin.opt_none, []) ∷ []
productions_of g (Nonterminal.closed (Closed.group xs)) = (Origin.group, map grammar_symbol (closed_list xs)) ∷ []
productions_of g (Nonterminal.closed Closed.lookahead) = (Origin.look, []) ∷ []
productions_of g (Nonterminal.closed Closed.lookbehind) = (Origin.look, []) ∷ []
productions_of g (Nonterminal.closed (Closed.terminal t)) = []
productions_of g (Nonterminal.closed (Closed.choose x)) = []
productions_of g (Nonterminal.closed (Closed.name m n x)) = []
productions_of g (Nonterminal.closed Closed.faulty) = []

pair-is : (o p : Origin) (s t : RightSide) → o ≡ p → s ≡ t → ◌≡◌ {A = Origin × RightSide} (o, s) (p, t)
pair-is o p s t e f = ap (λ a. (a, s)) e ∙ ap (λ b. (p, b)) f

pub no_parameters : (ps : List Text) → has_none ps ≡ true → ps ≡ []
no_parameters [] h = refl
no_parameters (p ∷ ps) h = cc

-- what fits is listed
alternative-listed : (g : EnabledGrammar) (r : EnabledRule) (args : Closeds) (level : Option ℕ) (ps : List (Choice × Option Rank))
    (p : Choice × Option Rank) → Among ps p → fits g r args level p ≡ true →
    Among (by_alternatives g r args level ps) (choice_of_side g r args p)
alternative-listed g r args level [] p i h = absurd i
alternative-listed g r args level (q ∷ ps) p (inl e) h =
    first (fits g r args level q) (ap (fits g r args level) e ∙ h)
  where
    first : (b : Bool) → b ≡ true →
        Among (cond b (choice_of_side g r args q ∷ by_alternatives g r args level ps) (by_alternatives g r args level ps))
        (choice_of_side g r args p)
    first true k = inl (ap (choice_of_side g r args) e)
    first false k = cc
alternative-listed g r args level (q ∷ ps) p (inr i) h =
    later (fits g r args level q) (alternative-listed g r args level ps p i h)
  where
    later : (b : Bool) → Among (by_alternatives g r args level ps) (choice_of_side g r args p) →
        Among (cond b (choice_of_side g r args q ∷ by_alternatives g r args level ps) (by_alternatives g r args level ps))
        (choice_of_side g r args p)
    later true k = inr k
    later false k = k

-- what is listed fits
listed-alternative : (g : EnabledGrammar) (r : EnabledRule) (args : Closeds) (level : Option ℕ) (ps : List (Choice × Option Rank))
    (x : Origin × RightSide) → Among (by_alternatives g r args level ps) x →
    (p : Choice × Option Rank) × Among ps p × (fits g r args level p ≡ true) × (choice_of_side g r args p ≡ x)
listed-alternative g r args level [] x i = absurd i
listed-alternative g r args level (q ∷ ps) x i =
    go (fits g r args level q) refl i (listed-alternative g r args level ps x)
  where
    Found : List (Choice × Option Rank) → Type 0
    Found qs = (p : Choice × Option Rank) × Among qs p × (fits g r args level p ≡ true) × (choice_of_side g r args p ≡ x)

    go : (b : Bool) → fits g r args level q ≡ b →
        Among (cond b (choice_of_side g r args q ∷ by_alternatives g r args level ps) (by_alternatives g r args level ps)) x →
        (Among (by_alternatives g r args level ps) x → Found ps) → Found (q ∷ ps)
    go true e (inl k) later = (q, inl refl, e, k)
    go true e (inr k) later = let w = later k in (w.0, inr w.1, w.2, w.3)
    go false e k later = let w = later k in (w.0, inr w.1, w.2, w.3)

call-listed : (g : EnabledGrammar) (n : Text) (args : Closeds) (level : Option ℕ) (o : Origin) (side : RightSide)
    (rs : List EnabledRule) → rules_named g n ≡ rs → ByAlternative g n args level o side ⊎ ByPassDown g n args level o side →
    Among (of_call g n args level rs) (o, side)
call-listed g n args level o side [] e (inl m) = let f : [] ≡ m.rule ∷ [] = sym e ∙ m.fits.rule in cc
call-listed g n args level o side [] e (inr m) = let f : [] ≡ m.rule ∷ [] = sym e ∙ m.is_rule in cc
call-listed g n args level o side (r ∷ s ∷ rs) e (inl m) = let f : r ∷ s ∷ rs ≡ m.rule ∷ [] = sym e ∙ m.fits.rule in cc
call-listed g n args level o side (r ∷ s ∷ rs) e (inr m) = let f : r ∷ s ∷ rs ≡ m.rule ∷ [] = sym e ∙ m.is_rule in cc
call-listed g n args level o side (r ∷ []) e (inl m) =
    let f : r ∷ [] ≡ m.rule ∷ [] = sym e ∙ m.fits.rule in
    let same : m.rule ≡ r = cc in
    let many : length (closed_list args) ≡ length r.parameters = m.fits.arguments ∙ ap (λ q. length q.parameters) same in
    let in_r : Among (ranked_choices r) m.choice = subst (λ q. Among (ranked_choices q) m.choice) same m.fits.written in
    let leveled : is_some m.choice.1 ≡ has_levels r = m.fits.leveled ∙ ap has_levels same in
    let held : Holds g (bind r args) m.choice.0.condition = subst (λ q. Holds g (bind q args) m.choice.0.condition) same m.fits.holds in
    let fit : fits g r args level m.choice ≡ true =
    and_from (same_bool (is_some m.choice.1) (has_levels r)) (same_level (rank_level m.choice.1) level
    && holds g (bind r args) m.choice.0.condition)
    (ap (same_bool (is_some m.choice.1)) (sym leveled) ∙ same_bool-refl (is_some m.choice.1))
    (and_from (same_level (rank_level m.choice.1) level) (holds g (bind r args) m.choice.0.condition)
    (ap (same_level (rank_level m.choice.1)) (sym m.level_is) ∙ same_level-refl (rank_level m.choice.1))
    (true-holds g (bind r args) m.choice.0.condition held)) in
    let there = alternative-listed g r args level (ranked_choices r) m.choice in_r fit in
    let is : choice_of_side g r args m.choice ≡ (o, side) =
    pair-is (origin_with (argument_list g.spelled args) m.choice.0.origin) o
    (map grammar_symbol (right_side g r (bind r args) m.choice)) side (sym m.origin_is)
    (ap (λ q. map grammar_symbol (right_side g q (bind q args) m.choice)) (sym same) ∙ sym m.side_is) in
    go (length (closed_list args) == length r.parameters) (eq-eqb (length (closed_list args)) (length r.parameters) many)
    (subst (Among (by_alternatives g r args level (ranked_choices r))) is there)
  where
    go : (b : Bool) → b ≡ true → Among (by_alternatives g r args level (ranked_choices r)) (o, side) →
        Among (cond b (by_alternatives g r args level (ranked_choices r) ++ pass_down_of r n args level) []) (o, side)
    go true k i = among_left (by_alternatives g r args level (ranked_choices r)) (pass_down_of r n args level) (o, side) i
    go false k i = cc
call-listed g n args level o side (r ∷ []) e (inr m) =
    let f : r ∷ [] ≡ m.rule ∷ [] = sym e ∙ m.is_rule in
    let same : m.rule ≡ r = cc in
    let many : length (closed_list args) ≡ length r.parameters = m.arguments ∙ ap (λ q. length q.parameters) same in
    let to_is : tighter r m.from ≡ Some m.to = ap (λ q. tighter q m.from) (sym same) ∙ m.to_is in
    let down : pass_down_of r n args level ≡ down_to n args (Some m.to) = ap (pass_down_of r n args) m.from_is
    ∙ ap (down_to n args) to_is in
    go (length (closed_list args) == length r.parameters) (eq-eqb (length (closed_list args)) (length r.parameters) many)
    (subst (λ l. Among l (o, side)) (sym down)
    (inl (pair-is Origin.pass_down o (GrammarSymbol.nonterminal (Nonterminal.closed (Closed.call n args (Some m.to))) ∷ []) side
    (sym m.origin_is) (sym m.side_is))))
  where
    go : (b : Bool) → b ≡ true → Among (pass_down_of r n args level) (o, side) →
        Among (cond b (by_alternatives g r args level (ranked_choices r) ++ pass_down_of r n args level) []) (o, side)
    go true k i = among_right (by_alternatives g r args level (ranked_choices r)) (pass_down_of r n args level) (o, side) i
    go false k i = cc

start-listed : (g : EnabledGrammar) (n : Text) (o : Origin) (side : RightSide) (rs : List EnabledRule) → rules_named g n ≡ rs →
    Produces g (Nonterminal.start n) o side → Among (of_start n rs) (o, side)
start-listed g n o side [] e m = let f : [] ≡ m.0 ∷ [] = sym e ∙ m.1 in cc
start-listed g n o side (r ∷ s ∷ rs) e m = let f : r ∷ s ∷ rs ≡ m.0 ∷ [] = sym e ∙ m.1 in cc
start-listed g n o side (r ∷ []) e m =
    let f : r ∷ [] ≡ m.0 ∷ [] = sym e ∙ m.1 in
    let same : m.0 ≡ r = cc in
    let alone : has_none r.parameters ≡ true = ap (λ q. has_none q.parameters) (sym same) ∙ ap has_none m.2 in
    let open_ : r.public ≡ true = ap (λ q. q.public) (sym same) ∙ m.3 in
    go (has_none r.parameters && r.public) (and_from (has_none r.parameters) r.public alone open_)
    (pair-is Origin.start o (GrammarSymbol.nonterminal (Nonterminal.closed (Closed.call n Closeds.none (loosest r))) ∷ []) side
    (sym m.4) (ap (λ q. GrammarSymbol.nonterminal (Nonterminal.closed (Closed.call n Closeds.none (loosest q))) ∷ []) (sym same)
    ∙ sym m.5))
  where
    go : (b : Bool) → b ≡ true → ◌≡◌ {A = Origin × RightSide} (start_choice n r) (o, side) →
        Among (cond b (start_choice n r ∷ []) []) (o, side)
    go true k i = inl i
    go false k i = cc

-- each production is listed
pub listed : (g : EnabledGrammar) (x : Nonterminal) (o : Origin) (side : RightSide) → Produces g x o side →
    Among (productions_of g x) (o, side)
listed g (Nonterminal.start n) o side m = start-listed g n o side (rules_named g n) refl m
listed g (Nonterminal.closed (Closed.call n args level)) o side m = call-listed g n args level o side (rules_named g n) refl m
listed g (Nonterminal.closed (Closed.repeat Op.plus x)) o side (inl m) =
    inl (pair-is Origin.plus_one o (grammar_symbol x ∷ []) side (sym m.0) (sym m.1))
listed g (Nonterminal.closed (Closed.repeat Op.plus x)) o side (inr m) =
    inr (inl (pair-is Origin.plus_more o
    (GrammarSymbol.nonterminal (Nonterminal.closed (Closed.repeat Op.plus x)) ∷ grammar_symbol x ∷ []) side (sym m.0) (sym m.1)))
listed g (Nonterminal.closed (Closed.repeat Op.star x)) o side (inl m) = inl (pair-is Origin.star_none o [] side (sym m.0) (sym m.1))
listed g (Nonterminal.closed (Closed.repeat Op.star x)) o side (inr m) =
    inr (inl (pair-is Origin.star_some o (GrammarSymbol.nonterminal (Nonterminal.closed (Closed.repeat Op.plus x)) ∷ []) side
    (sym m.0) (sym m.1)))
listed g (Nonterminal.closed (Closed.repeat Op.question x)) o side (inl m) =
    inr (inl (pair-is Origin.opt_none o [] side (sym m.0) (sym m.1)))
listed g (Nonterminal.closed (Closed.repeat Op.question x)) o side (inr m) =
    inl (pair-is Origin.opt_some o (grammar_symbol x ∷ []) side (sym m.0) (sym m.1))
listed g (Nonterminal.closed (Closed.group xs)) o side m =
    inl (pair-is Origin.group o (map grammar_symbol (closed_list xs)) side (sym m.0) (sym m.1))
listed g (Nonterminal.closed Closed.lookahead) o side m = inl (pair-is Origin.look o [] side (sym m.0) (sym m.1))
listed g (Nonterminal.closed Closed.lookbehind) o side m = inl (pair-is Origin.look o [] side (sym m.0) (sym m.1))
listed g (Nonterminal.closed (Closed.terminal t)) o side m = absurd m
listed g (Nonterminal.closed (Closed.choose x)) o side m = absurd m
listed g (Nonterminal.closed (Closed.name a n x)) o side m = absurd m
listed g (Nonterminal.closed Closed.faulty) o side m = absurd m

-- the origin and the right side of a pair
first-is : (x y : Origin × RightSide) → x ≡ y → x.0 ≡ y.0
first-is x y e = ap (λ p. p.0) e

second-is : (x y : Origin × RightSide) → x ≡ y → x.1 ≡ y.1
second-is x y e = ap (λ p. p.1) e

listed-call : (g : EnabledGrammar) (n : Text) (args : Closeds) (level : Option ℕ) (o : Origin) (side : RightSide)
    (rs : List EnabledRule) → rules_named g n ≡ rs → Among (of_call g n args level rs) (o, side) →
    ByAlternative g n args level o side ⊎ ByPassDown g n args level o side
listed-call g n args level o side [] e i = absurd i
listed-call g n args level o side (r ∷ s ∷ rs) e i = absurd i
listed-call g n args level o side (r ∷ []) e i = go (length (closed_list args) == length r.parameters) refl i
  where
    by_level : (l : Option ℕ) → level ≡ l → length (closed_list args) ≡ length r.parameters →
        Among (pass_down_of r n args l) (o, side) →
        ByPassDown g n args level o side
    by_level None f many k = absurd k
    by_level (Some from) f many k = by_tighter (tighter r from) refl k
      where
        by_tighter : (t : Option ℕ) → tighter r from ≡ t → Among (down_to n args t) (o, side) → ByPassDown g n args level o side
        by_tighter None h j = absurd j
        by_tighter (Some to) h (inr j) = absurd j
        by_tighter (Some to) h (inl j) = record {
          rule = r;
          is_rule = e;
          arguments = many;
          from = from;
          to = to;
          from_is = f;
          to_is = h;
          origin_is = sym (ap (λ p. p.0) j);
          side_is = sym (ap (λ p. p.1) j);
        }

    of_alternative : length (closed_list args) ≡ length r.parameters →
        (p : Choice × Option Rank) × Among (ranked_choices r) p × (fits g r args level p ≡ true)
        × (choice_of_side g r args p ≡ (o, side)) →
        ByAlternative g n args level o side
    of_alternative many w =
        let p = w.0 in
        let a = and_parts (same_bool (is_some p.1) (has_levels r)) (same_level (rank_level p.1) level
        && holds g (bind r args) p.0.condition) w.2 in
        let b = and_parts (same_level (rank_level p.1) level) (holds g (bind r args) p.0.condition) a.1 in
        record {
          rule = r;
          choice = p;
          fits = record {
            rule = e;
            arguments = many;
            written = w.1;
            leveled = same_bool-eq (is_some p.1) (has_levels r) a.0;
            holds = holds-true g (bind r args) p.0.condition b.1;
          };
          level_is = same_level-eq (rank_level p.1) level b.0;
          origin_is = sym (ap (λ q. q.0) w.3);
          side_is = sym (ap (λ q. q.1) w.3);
        }

    either : length (closed_list args) ≡ length r.parameters →
        Among (by_alternatives g r args level (ranked_choices r)) (o, side) ⊎ Among (pass_down_of r n args level) (o, side) →
        ByAlternative g n args level o side ⊎ ByPassDown g n args level o side
    either many (inl k) = inl (of_alternative many (listed-alternative g r args level (ranked_choices r) (o, side) k))
    either many (inr k) = inr (by_level level refl many k)

    go : (b : Bool) → (length (closed_list args) == length r.parameters) ≡ b →
        Among (cond b (by_alternatives g r args level (ranked_choices r) ++ pass_down_of r n args level) []) (o, side) →
        ByAlternative g n args level o side ⊎ ByPassDown g n args level o side
    go true k j =
        either (eqb-true (length (closed_list args)) (length r.parameters) k)
        (among_parts (by_alternatives g r args level (ranked_choices r)) (pass_down_of r n args level) (o, side) j)
    go false k j = absurd j

listed-start : (g : EnabledGrammar) (n : Text) (o : Origin) (side : RightSide) (rs : List EnabledRule) → rules_named g n ≡ rs →
    Among (of_start n rs) (o, side) → Produces g (Nonterminal.start n) o side
listed-start g n o side [] e i = absurd i
listed-start g n o side (r ∷ s ∷ rs) e i = absurd i
listed-start g n o side (r ∷ []) e i = go (has_none r.parameters && r.public) refl i
  where
    go : (b : Bool) → (has_none r.parameters && r.public) ≡ b → Among (cond b (start_choice n r ∷ []) []) (o, side) →
        Produces g (Nonterminal.start n) o side
    go true k (inl j) =
        let w = and_parts (has_none r.parameters) r.public k in
        (r, e, no_parameters r.parameters w.0, w.1, sym (ap (λ p. p.0) j), sym (ap (λ p. p.1) j))
    go true k (inr j) = absurd j
    go false k j = absurd j

-- what is listed is a production
pub is_production : (g : EnabledGrammar) (x : Nonterminal) (o : Origin) (side : RightSide) →
    Among (productions_of g x) (o, side) → Produces g x o side
is_production g (Nonterminal.start n) o side i = listed-start g n o side (rules_named g n) refl i
is_production g (Nonterminal.closed (Closed.call n args level)) o side i = listed-call g n args level o side (rules_named g n) refl i
is_production g (Nonterminal.closed (Closed.repeat Op.plus x)) o side (inl e) =
    inl (sym (ap (λ p. p.0) e), sym (ap (λ p. p.1) e))
is_production g (Nonterminal.closed (Closed.repeat Op.plus x)) o side (inr (inl e)) =
    inr (sym (ap (λ p. p.0) e), sym (ap (λ p. p.1) e))
is_production g (Nonterminal.closed (Closed.repeat Op.plus x)) o side (inr (inr i)) = absurd i
is_production g (Nonterminal.closed (Closed.repeat Op.star x)) o side (inl e) =
    inl (sym (ap (λ p. p.0) e), sym (ap (λ p. p.1) e))
is_production g (Nonterminal.closed (Closed.repeat Op.star x)) o side (inr (inl e)) =
    inr (sym (ap (λ p. p.0) e), sym (ap (λ p. p.1) e))
is_production g (Nonterminal.closed (Closed.repeat Op.star x)) o side (inr (inr i)) = absurd i
is_production g (Nonterminal.closed (Closed.repeat Op.question x)) o side (inl e) =
    inr (sym (ap (λ p. p.0) e), sym (ap (λ p. p.1) e))
is_production g (Nonterminal.closed (Closed.repeat Op.question x)) o side (inr (inl e)) =
    inl (sym (ap (λ p. p.0) e), sym (ap (λ p. p.1) e))
is_production g (Nonterminal.closed (Closed.repeat Op.question x)) o side (inr (inr i)) = absurd i
is_production g (Nonterminal.closed (Closed.group xs)) o side (inl e) = (sym (ap (λ p. p.0) e), sym (ap (λ p. p.1) e))
is_production g (Nonterminal.closed (Closed.group xs)) o side (inr i) = absurd i
is_production g (Nonterminal.closed Closed.lookahead) o side (inl e) = (sym (ap (λ p. p.0) e), sym (ap (λ p. p.1) e))
is_production g (Nonterminal.closed Closed.lookahead) o side (inr i) = absurd i
is_production g (Nonterminal.closed Closed.lookbehind) o side (inl e) = (sym (ap (λ p. p.0) e), sym (ap (λ p. p.1) e))
is_production g (Nonterminal.closed Closed.lookbehind) o side (inr i) = absurd i
is_production g (Nonterminal.closed (Closed.terminal t)) o side i = absurd i
is_production g (Nonterminal.closed (Closed.choose x)) o side i = absurd i
is_production g (Nonterminal.closed (Closed.name a n x)) o side i = absurd i
is_production g (Nonterminal.closed Closed.faulty) o side i = absurd i
