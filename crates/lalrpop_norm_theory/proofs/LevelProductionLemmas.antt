-- The productions of a call are those of its level's rule; for the law of what levels keep.
use Rattle.std.proofs.Common.{◌≡◌, ℕ, List, [], ◌∷◌, refl, ap, sym, ◌∙◌, subst, Bool, inl, inr}
use Rattle.std.specs.Prelude.{Option, Some, None, map}
use Rattle.lalrpop_grammar_symbols.specs.Symbols.{Text, Terminal, Closed, Closeds}
use Rattle.lalrpop_grammar.specs.WrittenGrammar.{Origin, Rule, Grammar}
use Rattle.lalrpop_grammar_language.specs.Among.{Among}
use Rattle.lalrpop_grammar_language.specs.Enabled.{Choice}
use Rattle.lalrpop_grammar_language.specs.Levels.{tighter, ranked_choices}
use Rattle.lalrpop_grammar_language.specs.Closing.{right_side}
use Rattle.lalrpop_grammar_language.specs.Conditions.{Holds}
use Rattle.lalrpop_grammar_language.specs.Admitting.{bind, argument_list}
use Rattle.lalrpop_grammar_language.specs.Expansion.{GrammarSymbol, Nonterminal, RightSide, grammar_symbol, symbol_of_terminal, Produces}
use Rattle.lalrpop_grammar_language.specs.Expansion.{ByAlternative, origin_with}
use Rattle.lalrpop_norm_theory.specs.Between.{rule_between}
use Rattle.lalrpop_norm_theory.specs.Same.{rename_symbol, rename_side}
use Rattle.lalrpop_norm_theory.proofs.LevelLemmas.{no_rank}
use Rattle.lalrpop_norm_theory.specs.LevelRules.{level_name, by_level_names, all_by_level_names}
use Rattle.lalrpop_norm_theory.specs.LevelLaws.{nonterminal_by_level, IsLevelable, TellsOwnRules}
use Rattle.lalrpop_norm_theory.proofs.LevelOrderLemmas.{one_rule}
use Rattle.lalrpop_norm_theory.proofs.LeveledRuleLemmas.{key_rule}
use Rattle.lalrpop_norm_theory.proofs.LevelAttrLemmas.{flat_key}
use Rattle.lalrpop_norm_theory.proofs.LevelChoiceLemmas.{choice_listed}
use Rattle.lalrpop_norm_theory.proofs.LevelNameLemmas.{before, after, own_rule}
use Rattle.lalrpop_norm_theory.proofs.LevelSpellingLemmas.{argument_list_alike}
use Rattle.lalrpop_norm_theory.proofs.LevelFitLemmas.{IsCallOf, level_rule, side_here, side_there, choice_forth, StandsFor}
use Rattle.lalrpop_norm_theory.proofs.LevelFitLemmas.{choice_back, pass_forth, fits_there, holds_there, fits_here}

-- the nonterminal of a closed symbol, as a symbol of a right side
abbrev pub nt : Closed → GrammarSymbol Nonterminal
nt x = GrammarSymbol.nonterminal (Nonterminal.closed x)

-- right sides under the names of the levels

terminal-kept : (f : Text → ℕ → Text) (t : Terminal) →
    symbol_of_terminal t ≡ rename_symbol (nonterminal_by_level f) (symbol_of_terminal t)
terminal-kept f (Terminal.quoted t) = refl
terminal-kept f (Terminal.regex t) = refl
terminal-kept f (Terminal.bare t) = refl
terminal-kept f Terminal.error = refl

-- a closed symbol under the names of the levels becomes the renamed symbol of the right side
pub symbol-by_level : (f : Text → ℕ → Text) (x : Closed) →
    grammar_symbol (by_level_names f x) ≡ rename_symbol (nonterminal_by_level f) (grammar_symbol x)
symbol-by_level f (Closed.terminal t) = terminal-kept f t
symbol-by_level f (Closed.call n args level) = refl
symbol-by_level f (Closed.repeat op x) = refl
symbol-by_level f (Closed.group xs) = refl
symbol-by_level f (Closed.choose x) = symbol-by_level f x
symbol-by_level f (Closed.name m n x) = symbol-by_level f x
symbol-by_level f Closed.lookahead = refl
symbol-by_level f Closed.lookbehind = refl
symbol-by_level f Closed.faulty = refl

-- closed symbols under the names of the levels become the renamed right side
pub side-by_level : (f : Text → ℕ → Text) (xs : List Closed) →
    map grammar_symbol (map (by_level_names f) xs) ≡ rename_side (nonterminal_by_level f) (map grammar_symbol xs)
side-by_level f [] = refl
side-by_level f (x ∷ xs) =
    ap (λ p. p ∷ map grammar_symbol (map (by_level_names f) xs)) (symbol-by_level f x)
    ∙ ap (λ l. rename_symbol (nonterminal_by_level f) (grammar_symbol x) ∷ l) (side-by_level f xs)

-- productions there

-- Under the names of the levels there is a production with that right side. It has the same origin, where each alternative tells its
-- rule: an argument at a level is told by that.
abbrev pub MadeThere : (Text → Text → Option Bool) → Grammar → (Text → ℕ → Text) → Nonterminal → Origin → RightSide →
    Type 0
MadeThere finds g f x o side =
    (p : Origin) × Produces (after finds g f) (nonterminal_by_level f x) p (rename_side (nonterminal_by_level f) side)
    × (TellsOwnRules g → p ≡ o)

abbrev arguments_there : (Text → Text → Option Bool) → Grammar → (Text → ℕ → Text) → Closeds → Origin → Origin
arguments_there finds g f args = origin_with (argument_list (after finds g f).spelled (all_by_level_names f args))

abbrev arguments_here : (Text → Text → Option Bool) → Grammar → Closeds → Origin → Origin
arguments_here finds g args = origin_with (argument_list (before finds g).spelled args)

-- each production of such a call is one in the leveled grammar, under the names of the levels
pub call_forth : (finds : Text → Text → Option Bool) (g : Grammar) (f : Text → ℕ → Text) → IsLevelable finds g f →
    (r : Rule) (args : Closeds) (level : Option ℕ) → IsCallOf finds g r args level → (o : Origin) (side : RightSide) →
    Produces (before finds g) (Nonterminal.closed (Closed.call r.name args level)) o side →
    MadeThere finds g f (Nonterminal.closed (Closed.call r.name args level)) o side
call_forth finds g f w r args level call o side (inl m) =
    let own = own_rule finds g f w r call.among in
    let same : m.rule ≡ rule_between r = one_rule (before finds g) r.name m.rule (rule_between r) m.fits.rule own in
    let there = subst (λ e. Among (ranked_choices e) m.choice) same m.fits.written in
    let holds = subst (λ e. Holds (before finds g) (bind e args) m.choice.0.condition) same m.fits.holds in
    let side_is : side ≡ map grammar_symbol (side_here finds g r args m.choice) =
    m.side_is ∙ ap (λ e. map grammar_symbol (right_side (before finds g) e (bind e args) m.choice)) same in
    let c = choice_forth finds g f w r args level call m.choice there m.level_is in (
      arguments_there finds g f args c.0.origin,
      inl (record {
        rule = level_rule f r level;
        choice = (c.0, None);
        fits = fits_there finds g f w r args level call c.0 c.1 (holds_there finds g f r args level m.choice c.0 c.2 holds);
        level_is = refl;
        origin_is = refl;
        side_is = ap (rename_side (nonterminal_by_level f)) side_is ∙ sym (side-by_level f (side_here finds g r args m.choice))
            ∙ ap (map grammar_symbol) (sym c.2.side);
      }),
      λ tells. ap (λ l. origin_with l c.0.origin) (argument_list_alike finds g f w tells args call.well)
          ∙ ap (arguments_here finds g args) c.2.origin ∙ sym m.origin_is,
    )
call_forth finds g f w r args level call o side (inr m) =
    let own = own_rule finds g f w r call.among in
    let same : m.rule ≡ rule_between r = one_rule (before finds g) r.name m.rule (rule_between r) m.is_rule own in
    let down : tighter (rule_between r) m.from ≡ Some m.to = ap (λ e. tighter e m.from) (sym same) ∙ m.to_is in
    let at : IsCallOf finds g r args (Some m.from) = subst (λ l. IsCallOf finds g r args l) m.from_is call in
    let c = pass_forth finds g f w r args m.from m.to at down in
    let holds : Holds (after finds g f) (bind (level_rule f r (Some m.from)) (all_by_level_names f args)) c.0.condition =
    subst (λ x. Holds (after finds g f) (bind (level_rule f r (Some m.from)) (all_by_level_names f args)) x) (sym c.3) tt in
    let found : MadeThere finds g f (Nonterminal.closed (Closed.call r.name args (Some m.from))) o side = (
      arguments_there finds g f args c.0.origin,
      inl (record {
        rule = level_rule f r (Some m.from);
        choice = (c.0, None);
        fits = fits_there finds g f w r args (Some m.from) at c.0 c.1 holds;
        level_is = refl;
        origin_is = refl;
        side_is = ap (rename_side (nonterminal_by_level f)) m.side_is ∙ ap (map grammar_symbol) (sym c.5);
      }),
      λ tells. ap (arguments_there finds g f args) c.2 ∙ sym m.origin_is,
    ) in
    subst (λ l. MadeThere finds g f (Nonterminal.closed (Closed.call r.name args l)) o side) (sym m.from_is) found

-- and back

-- there is a production before with that right side but for names, and its origin where alternatives tell their rule
abbrev pub MadeFrom : (Text → Text → Option Bool) → Grammar → (Text → ℕ → Text) → Nonterminal → Origin → RightSide →
    Type 0
MadeFrom finds g f x o side =
    (p : Origin) × (from : RightSide) × Produces (before finds g) x p from × (side ≡ rename_side (nonterminal_by_level f) from)
    × (TellsOwnRules g → p ≡ o)

choice_made : (finds : Text → Text → Option Bool) (g : Grammar) (f : Text → ℕ → Text) → IsLevelable finds g f →
    (r : Rule) (args : Closeds) (level : Option ℕ) → IsCallOf finds g r args level → (c : Choice) (o : Origin) (side : RightSide) →
    o ≡ arguments_there finds g f args c.origin → side ≡ map grammar_symbol (side_there finds g f r args level c) →
    Holds (after finds g f) (bind (level_rule f r level) (all_by_level_names f args)) c.condition →
    StandsFor finds g f r args level c → MadeFrom finds g f (Nonterminal.closed (Closed.call r.name args level)) o side
choice_made finds g f w r args level call c o side told e holds (StandsFor.alternative p there at leveled s) = (
  arguments_here finds g args p.0.origin,
  map grammar_symbol (side_here finds g r args p),
  inl (record {
    rule = rule_between r;
    choice = p;
    fits = fits_here finds g f w r args level call p c there leveled s holds;
    level_is = at;
    origin_is = refl;
    side_is = refl;
  }),
  e ∙ ap (map grammar_symbol) s.side ∙ side-by_level f (side_here finds g r args p),
  λ tells. ap (λ l. origin_with l p.0.origin) (sym (argument_list_alike finds g f w tells args call.well))
      ∙ ap (arguments_there finds g f args) (sym s.origin) ∙ sym told,
)
choice_made finds g f w r args level call c o side told e holds (StandsFor.pass_down from to at t passes s) = (
  Origin.pass_down,
  nt (Closed.call r.name args (Some to)) ∷ [],
  inr (record {
    rule = rule_between r;
    is_rule = own_rule finds g f w r call.among;
    arguments = call.many;
    from = from;
    to = to;
    from_is = at;
    to_is = t;
    origin_is = refl;
    side_is = refl;
  }),
  e ∙ ap (map grammar_symbol) s,
  λ tells. sym (told ∙ ap (arguments_there finds g f args) passes),
)

-- each alternative of the call in the leveled grammar comes from a production of the call at its level
pub call_back : (finds : Text → Text → Option Bool) (g : Grammar) (f : Text → ℕ → Text) → IsLevelable finds g f →
    (r : Rule) (args : Closeds) (level : Option ℕ) → IsCallOf finds g r args level → (o : Origin) (side : RightSide) →
    ByAlternative (after finds g f) (level_name f r.name level) (all_by_level_names f args) None o side →
    MadeFrom finds g f (Nonterminal.closed (Closed.call r.name args level)) o side
call_back finds g f w r args level call o side m =
    let q = level_rule f r level in
    let given = all_by_level_names f args in
    let named = key_rule finds g f w.names r level call.among call.has_level in
    let same : m.rule ≡ q = one_rule (after finds g f) (level_name f r.name level) m.rule q m.fits.rule named in
    let there = subst (λ e. Among (ranked_choices e) m.choice) same m.fits.written in
    let rank : m.choice.1 ≡ None = no_rank q m.choice (flat_key f r level call.has_level) there in
    let pair : m.choice ≡ (m.choice.0, None) = ap (λ a. (m.choice.0, a)) rank in
    let side_is : side ≡ map grammar_symbol (side_there finds g f r args level m.choice.0) =
    m.side_is ∙ ap (λ e. map grammar_symbol (right_side (after finds g f) e (bind e given) m.choice)) same
    ∙ ap (λ p. map grammar_symbol (right_side (after finds g f) q (bind q given) p)) pair in
    choice_made finds g f w r args level call m.choice.0 o side m.origin_is side_is
    (subst (λ e. Holds (after finds g f) (bind e given) m.choice.0.condition) same m.fits.holds)
    (choice_back finds g f w r args level call m.choice.0 (choice_listed q m.choice there))
