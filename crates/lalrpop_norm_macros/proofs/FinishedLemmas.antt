-- Finished rules of keys are those that the laws of macros ask for; for the grammar with these rules.
use Rattle.std.proofs.Common.{◌≡◌, List, [], ◌∷◌, ◌++◌, refl, ap, sym, ◌∙◌, subst, inl, inr, map}
use Rattle.std.specs.Prelude.{Bool, true, false, ◌||◌, ◌↔◌, Option, Some, None, flat_map, codes}
use Rattle.std.specs.List.{list_any}
use Rattle.std.proofs.lemmas.Bool.{true≢false}
use Rattle.lalrpop_grammar_symbols.specs.Symbols.{Text, TextSpan, Op, Closed, Closeds}
use Rattle.lalrpop_grammar.specs.WrittenGrammar.{Action, Alternative, Origin, Rule, WrittenItem, rules_of}
use Rattle.lalrpop_grammar_language.specs.Among.{Among}
use Rattle.lalrpop_grammar_language.specs.Enabled.{EnabledGrammar, EnabledRule, Choice, IsRule, bare_of, bares_of, choice_of, has_attr}
use Rattle.lalrpop_grammar_language.specs.Levels.{Rank, has_levels}
use Rattle.lalrpop_grammar_language.specs.Conditions.{Holds}
use Rattle.lalrpop_grammar_language.specs.Admitting.{bind}
use Rattle.lalrpop_grammar_language.specs.Expansion.{Nonterminal}
use Rattle.lalrpop_norm_theory.specs.Between.{rule_between, with_origins}
use Rattle.lalrpop_norm_theory.specs.Inlined.{IsInlined}
use Rattle.lalrpop_norm_theory.specs.Premises.{HasNoLevels}
use Rattle.lalrpop_norm_theory.proofs.ExpansionListLemmas.{rule_there}
use Rattle.lalrpop_norm_theory.proofs.LevelLemmas.{ranked_flat}
use Rattle.lalrpop_norm_theory.specs.KeyRules.{AreInstanceChoices, AreKeyChoices, IsKey, IsKeyRule}
use Rattle.lalrpop_norm_theory.specs.KeyRules.{AreTwoChoices, IsOneChoice}
use Rattle.lalrpop_norm_theory.specs.KeyTypes.{IsKeyDeclaration}
use Rattle.lalrpop_norm_macros.specs.AddedRules.{AddedChoice, AreAddedAlternatives, added_choices}
use Rattle.lalrpop_norm_macros.specs.FinishedRules.{BecomesInInstance, IsFinishedRule}
use Rattle.lalrpop_norm_macros.specs.InstanceRules.{AreInstancesBy}
use Rattle.lalrpop_norm_macros.specs.KeyedSymbols.{AreWrittenByName}
use Rattle.lalrpop_norm_macros.specs.RuleItems.{other_items}

-- items

-- the rules of a list of items are the new ones, where these stand behind items that are no rules
pub rules_of_made : (items : List WrittenItem) (rs : List Rule) → rules_of (other_items items ++ map WrittenItem.nonterminal rs) ≡ rs
rules_of_made [] [] = refl
rules_of_made [] (r ∷ rs) = ap (λ l. r ∷ l) (rules_of_made [] rs)
rules_of_made (WrittenItem.nonterminal r ∷ items) rs = rules_of_made items rs
rules_of_made (WrittenItem.match_token groups p ∷ items) rs = rules_of_made items rs
rules_of_made (WrittenItem.extern_token block ∷ items) rs = rules_of_made items rs
rules_of_made (WrittenItem.intern_token entries ∷ items) rs = rules_of_made items rs
rules_of_made (WrittenItem.import text ∷ items) rs = rules_of_made items rs

-- the names that match blocks map stay, when the rules are taken out and new ones put behind
pub bares_of_made : (items : List WrittenItem) (rs : List Rule)
    → bares_of (other_items items ++ map WrittenItem.nonterminal rs) ≡ bares_of items
bares_of_made [] [] = refl
bares_of_made [] (r ∷ rs) = bares_of_made [] rs
bares_of_made (WrittenItem.nonterminal r ∷ items) rs = bares_of_made items rs
bares_of_made (WrittenItem.match_token groups p ∷ items) rs = ap (λ l. flat_map (flat_map bare_of) groups ++ l) (bares_of_made items rs)
bares_of_made (WrittenItem.extern_token block ∷ items) rs = bares_of_made items rs
bares_of_made (WrittenItem.intern_token entries ∷ items) rs = bares_of_made items rs
bares_of_made (WrittenItem.import text ∷ items) rs = bares_of_made items rs

-- choices

abbrev seen : List Alternative → List Choice
seen as_ = map choice_of (with_origins as_)

abbrev without_rank : Choice → Choice × Option Rank
without_rank c = (c, None)

module _ (g : EnabledGrammar) (f : Closed → Text) (keys : List Closed) (r : EnabledRule) (args : Closeds) where
  instance_choices : (as_ bs : List Alternative)
      → AreInstancesBy (Holds g (bind r args)) (BecomesInInstance g f keys r args) as_ bs
      → AreInstanceChoices g f r args (map without_rank (seen as_)) (seen bs)
  instance_choices [] bs e = ap seen e
  instance_choices (a ∷ as_) bs (inl (h, b, rest, e, m, more)) =
      inl (
        h,
        choice_of (b.origin, b),
        seen rest,
        ap seen e,
        record { origin = m.origin; unconditional = m.unconditional; symbols = m.symbols_are.1 },
        instance_choices as_ rest more,
        m.action,
      )
  instance_choices (a ∷ as_) bs (inr (h, more)) = inr (h, instance_choices as_ bs more)

-- what each alternative of a finished rule has
pub record IsPlainAlternative (bares : List Text) (f : Closed → Text) (keys : List Closed) (b : Alternative) : Type 0 where
  pub unconditional : b.condition ≡ None
  pub no_attributes : b.attributes ≡ []
  pub side : List Closed
  pub symbols : AreWrittenByName bares f keys side b.expr

instances_plain : (g : EnabledGrammar)
    (f : Closed → Text) (keys : List Closed) (r : EnabledRule) (args : Closeds) (as_ bs : List Alternative)
    → AreInstancesBy (Holds g (bind r args)) (BecomesInInstance g f keys r args) as_ bs → (b : Alternative) → Among bs b
    → IsPlainAlternative g.bares f keys b
instances_plain g f keys r args [] bs e b i = absurd (subst (λ l. Among l b) e i)
instances_plain g f keys r args (a ∷ as_) bs (inl (h, c, rest, e, m, more)) b i = go (subst (λ l. Among l b) e i)
    (λ j. instances_plain g f keys r args as_ rest more b j)
  where
    go : Among (c ∷ rest) b → (Among rest b → IsPlainAlternative g.bares f keys b) → IsPlainAlternative g.bares f keys b
    go (inl k) later = subst (IsPlainAlternative g.bares f keys) k
        (record { unconditional = m.unconditional; no_attributes = m.no_attributes; side = _; symbols = m.symbols_are })
    go (inr j) later = later j
instances_plain g f keys r args (a ∷ as_) bs (inr (h, more)) b i = instances_plain g f keys r args as_ bs more b i

added_plain : (bares : List Text) (f : Closed → Text) (keys : List Closed) (p : TextSpan) (cs : List AddedChoice) (bs : List Alternative)
    → AreAddedAlternatives (AreWrittenByName bares f keys) p cs bs → (b : Alternative) → Among bs b
    → IsPlainAlternative bares f keys b
added_plain bares f keys p [] bs e b i = absurd (subst (λ l. Among l b) e i)
added_plain bares f keys p (c ∷ cs) bs (a, rest, e, m, more) b i = go (subst (λ l. Among l b) e i)
    (λ j. added_plain bares f keys p cs rest more b j)
  where
    go : Among (a ∷ rest) b → (Among rest b → IsPlainAlternative bares f keys b) → IsPlainAlternative bares f keys b
    go (inl k) later = subst (IsPlainAlternative bares f keys) k
        (record { unconditional = m.unconditional; no_attributes = m.no_attributes; side = c.symbols; symbols = m.symbols_are })
    go (inr j) later = later j

no_levels_in : (bs : List Alternative) → ((b : Alternative) → Among bs b → b.attributes ≡ [])
    → list_any (λ c. has_attr (codes "precedence") c.attributes) (seen bs) ≡ false
no_levels_in [] w = refl
no_levels_in (b ∷ bs) w =
    ap (λ l. has_attr (codes "precedence") l || list_any (λ c. has_attr (codes "precedence") c.attributes) (seen bs)) (w b (inl refl))
    ∙ no_levels_in bs (λ c i. w c (inr i))

-- finished rules, form by form

-- each alternative of a finished rule has no condition and no attributes, and symbols that are written by name
pub finished_alternatives : (g : EnabledGrammar) (rs : List Rule)
    (f : Closed → Text) (keys : List Closed) (x : Closed) (p : TextSpan) (q : Rule)
    → IsFinishedRule g rs f keys x p q → (b : Alternative) → Among q.alternatives b → IsPlainAlternative g.bares f keys b
finished_alternatives g rs f keys (Closed.call n args level) p q (written, c, m) b i =
    instances_plain g f keys (rule_between written) args written.alternatives q.alternatives m.alternatives b i
finished_alternatives g rs f keys (Closed.repeat op x) p q m b i =
    added_plain g.bares f keys p (added_choices (Closed.repeat op x)) q.alternatives m.alternatives b i
finished_alternatives g rs f keys (Closed.group xs) p q m b i =
    added_plain g.bares f keys p (added_choices (Closed.group xs)) q.alternatives m.alternatives b i
finished_alternatives g rs f keys Closed.lookahead p q m b i =
    added_plain g.bares f keys p (added_choices Closed.lookahead) q.alternatives m.alternatives b i
finished_alternatives g rs f keys Closed.lookbehind p q m b i =
    added_plain g.bares f keys p (added_choices Closed.lookbehind) q.alternatives m.alternatives b i
finished_alternatives g rs f keys (Closed.terminal t) p q m b i = absurd m
finished_alternatives g rs f keys (Closed.choose x) p q m b i = absurd m
finished_alternatives g rs f keys (Closed.name a n x) p q m b i = absurd m
finished_alternatives g rs f keys Closed.faulty p q m b i = absurd m

-- a finished rule has the name for its key and no parameters, and it is made for a key
pub finished_name : (g : EnabledGrammar) (rs : List Rule) (f : Closed → Text) (keys : List Closed) (x : Closed) (p : TextSpan) (q : Rule)
    → IsFinishedRule g rs f keys x p q → (q.name ≡ f x) × (q.parameters ≡ []) × IsKey x
finished_name g rs f keys (Closed.call n args level) p q (written, c, m) = (m.name, m.parameters, tt)
finished_name g rs f keys (Closed.repeat op x) p q m = (m.name, m.parameters, tt)
finished_name g rs f keys (Closed.group xs) p q m = (m.name, m.parameters, tt)
finished_name g rs f keys Closed.lookahead p q m = (m.name, m.parameters, tt)
finished_name g rs f keys Closed.lookbehind p q m = (m.name, m.parameters, tt)
finished_name g rs f keys (Closed.terminal t) p q m = absurd m
finished_name g rs f keys (Closed.choose x) p q m = absurd m
finished_name g rs f keys (Closed.name a n x) p q m = absurd m
finished_name g rs f keys Closed.faulty p q m = absurd m

-- a finished rule has no levels
pub finished_levels : (g : EnabledGrammar) (rs : List Rule)
    (f : Closed → Text) (keys : List Closed) (x : Closed) (p : TextSpan) (q : Rule)
    → IsFinishedRule g rs f keys x p q → has_levels (rule_between q) ≡ false
finished_levels g rs f keys x p q m = no_levels_in q.alternatives (λ b i. (finished_alternatives g rs f keys x p q m b i).no_attributes)

-- which are inlined

same_inlined : (g : EnabledGrammar) (n : Text) (r : EnabledRule) (b : Bool) → IsRule g n r → b ≡ r.inlined
    → (b ≡ true) ↔ ((q : EnabledRule) × IsRule g n q × (q.inlined ≡ true))
same_inlined g n r b i e = ((λ h. (r, i, sym e ∙ h)), (λ w. of_rule w.0 w.1 w.2))
  where
    of_rule : (q : EnabledRule) → IsRule g n q → q.inlined ≡ true → b ≡ true
    of_rule q j h = let same : r ≡ q = cc in e ∙ ap (λ (z : EnabledRule). z.inlined) same ∙ h

finished_inlined : (g : EnabledGrammar) (rs : List Rule) (f : Closed → Text) (keys : List Closed) (x : Closed) (p : TextSpan) (q : Rule)
    → IsFinishedRule g rs f keys x p q → ((rule_between q).inlined ≡ true) ↔ IsInlined g (Nonterminal.closed x)
finished_inlined g rs f keys (Closed.call n args level) p q (written, c, m) =
    same_inlined g n (rule_between written) (rule_between q).inlined c.is_rule (ap (λ l. has_attr (codes "inline") l) m.attributes)
finished_inlined g rs f keys (Closed.repeat Op.plus x) p q m =
    let e : (rule_between q).inlined ≡ false = ap (λ l. has_attr (codes "inline") l) m.attributes in
    ((λ h. absurd (true≢false (sym h ∙ e))), (λ w. absurd w))
finished_inlined g rs f keys (Closed.repeat Op.star x) p q m = ((λ h. tt), (λ w. ap (λ l. has_attr (codes "inline") l) m.attributes))
finished_inlined g rs f keys (Closed.repeat Op.question x) p q m = ((λ h. tt), (λ w. ap (λ l. has_attr (codes "inline") l) m.attributes))
finished_inlined g rs f keys (Closed.group xs) p q m = ((λ h. tt), (λ w. ap (λ l. has_attr (codes "inline") l) m.attributes))
finished_inlined g rs f keys Closed.lookahead p q m = ((λ h. tt), (λ w. ap (λ l. has_attr (codes "inline") l) m.attributes))
finished_inlined g rs f keys Closed.lookbehind p q m = ((λ h. tt), (λ w. ap (λ l. has_attr (codes "inline") l) m.attributes))
finished_inlined g rs f keys (Closed.terminal t) p q m = absurd m
finished_inlined g rs f keys (Closed.choose x) p q m = absurd m
finished_inlined g rs f keys (Closed.name a n x) p q m = absurd m
finished_inlined g rs f keys Closed.faulty p q m = absurd m

-- their choices

one_choice : (bares : List Text) (f : Closed → Text) (keys : List Closed) (p : TextSpan) (a : Action) (o : Origin) (xs : List Closed)
    (bs : List Alternative)
    → AreAddedAlternatives (AreWrittenByName bares f keys) p (record { action = a; origin = o; symbols = xs } ∷ []) bs
    → IsOneChoice bares f a o xs (seen bs)
one_choice bares f keys p a o xs bs (b, rest, e, m, none) = (
  choice_of (b.origin, b),
  ap seen (e ∙ ap (λ l. b ∷ l) none),
  record { origin = m.origin; unconditional = m.unconditional; symbols = m.symbols_are.1 },
  m.action,
)

two_choices : (bares : List Text) (f : Closed → Text) (keys : List Closed) (p : TextSpan) (o u : Origin) (xs ys : List Closed)
    (bs : List Alternative)
    → AreAddedAlternatives (AreWrittenByName bares f keys) p (record { action = Action.default; origin = o; symbols = xs }
    ∷ record { action = Action.default; origin = u; symbols = ys } ∷ []) bs
    → AreTwoChoices bares f o xs u ys (seen bs)
two_choices bares f keys p o u xs ys bs (b, rest, e, m, (c, more, k, l, none)) = (
  choice_of (b.origin, b),
  choice_of (c.origin, c),
  ap seen (e ∙ ap (λ z. b ∷ z) (k ∙ ap (λ z. c ∷ z) none)),
  record { origin = m.origin; unconditional = m.unconditional; symbols = m.symbols_are.1 },
  record { origin = l.origin; unconditional = l.unconditional; symbols = l.symbols_are.1 },
  m.action,
  l.action,
)

finished_choices : (g : EnabledGrammar) (rs : List Rule) (f : Closed → Text) (keys : List Closed) → HasNoLevels g → (x : Closed)
    (p : TextSpan) (q : Rule) → IsFinishedRule g rs f keys x p q → AreKeyChoices g f x (seen q.alternatives)
finished_choices g rs f keys flat (Closed.call n args (Some level)) p q (written, c, m) = absurd (cc (c.flat))
finished_choices g rs f keys flat (Closed.call n args None) p q (written, c, m) =
    let r = rule_between written in (
      r,
      c.is_rule,
      c.arguments,
      subst (λ ps. AreInstanceChoices g f r args ps (seen q.alternatives))
          (sym (ranked_flat r (flat r (rule_there g n r c.is_rule).0)))
          (instance_choices g f keys r args written.alternatives q.alternatives m.alternatives),
    )
finished_choices g rs f keys flat (Closed.repeat Op.plus x) p q m = two_choices g.bares f keys p _ _ _ _ q.alternatives m.alternatives
finished_choices g rs f keys flat (Closed.repeat Op.star x) p q m = two_choices g.bares f keys p _ _ _ _ q.alternatives m.alternatives
finished_choices g rs f keys flat (Closed.repeat Op.question x) p q m = two_choices g.bares f keys p _ _ _ _ q.alternatives m.alternatives
finished_choices g rs f keys flat (Closed.group xs) p q m = one_choice g.bares f keys p _ _ _ q.alternatives m.alternatives
finished_choices g rs f keys flat Closed.lookahead p q m = one_choice g.bares f keys p _ _ _ q.alternatives m.alternatives
finished_choices g rs f keys flat Closed.lookbehind p q m = one_choice g.bares f keys p _ _ _ q.alternatives m.alternatives
finished_choices g rs f keys flat (Closed.terminal t) p q m = absurd m
finished_choices g rs f keys flat (Closed.choose x) p q m = absurd m
finished_choices g rs f keys flat (Closed.name a n x) p q m = absurd m
finished_choices g rs f keys flat Closed.faulty p q m = absurd m

-- the rule of a key that the law of macros asks for
pub finished_key_rule : (g : EnabledGrammar) (rs : List Rule) (f : Closed → Text) (keys : List Closed) → HasNoLevels g → (x : Closed)
    (p : TextSpan) (q : Rule) → IsFinishedRule g rs f keys x p q → IsKeyRule g f x (rule_between q)
finished_key_rule g rs f keys flat x p q m = record {
  no_macro = (finished_name g rs f keys x p q m).1;
  no_levels = finished_levels g rs f keys x p q m;
  inlined = finished_inlined g rs f keys x p q m;
  choices = finished_choices g rs f keys flat x p q m;
}

-- and what it declares
pub finished_declaration : (g : EnabledGrammar) (rs : List Rule)
    (f : Closed → Text) (keys : List Closed) (x : Closed) (p : TextSpan) (q : Rule)
    → IsFinishedRule g rs f keys x p q → IsKeyDeclaration g f keys x q.declared
finished_declaration g rs f keys (Closed.call n args level) p q (written, c, m) = (rule_between written, c.is_rule, m.declared)
finished_declaration g rs f keys (Closed.repeat op x) p q m =
    let d = m.declared in (d.2.0, d.1 ∙ ap (λ y. Some y) d.2.1, d.2.2)
finished_declaration g rs f keys (Closed.group xs) p q m = m.declared
finished_declaration g rs f keys Closed.lookahead p q m = m.declared
finished_declaration g rs f keys Closed.lookbehind p q m = m.declared
finished_declaration g rs f keys (Closed.terminal t) p q m = absurd m
finished_declaration g rs f keys (Closed.choose x) p q m = absurd m
finished_declaration g rs f keys (Closed.name a n x) p q m = absurd m
finished_declaration g rs f keys Closed.faulty p q m = absurd m
