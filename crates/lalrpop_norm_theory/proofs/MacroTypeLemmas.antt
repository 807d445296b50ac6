-- What is in the expansion has the same types under the names of the keys; for the law of the types of keys.
use Rattle.std.proofs.Common.{◌≡◌, List, [], ◌∷◌, refl, ap, sym, ◌∙◌, subst, false, inl, inr, length}
use Rattle.std.specs.Prelude.{Option, Some, None, map, zip}
use Rattle.lalrpop_grammar_symbols.specs.Symbols.{Text, Op, WrittenSymbol, Closed, Closeds, closed_list}
use Rattle.lalrpop_grammar.specs.WrittenGrammar.{Action, Origin, Ty}
use Rattle.lalrpop_grammar_language.specs.Among.{Among}
use Rattle.lalrpop_grammar_language.specs.Enabled.{EnabledGrammar, EnabledRule, Choice, IsRule}
use Rattle.lalrpop_grammar_language.specs.Levels.{Rank, has_levels, loosest, ranked_choices}
use Rattle.lalrpop_grammar_language.specs.Closing.{parameter_value, close, sound_or_faulty, right_side}
use Rattle.lalrpop_grammar_language.specs.Conditions.{Holds}
use Rattle.lalrpop_grammar_language.specs.Admitting.{Fits, bind, argument_list, rank_level}
use Rattle.lalrpop_grammar_language.specs.Expansion.{GrammarSymbol, Nonterminal, grammar_symbol, origin_with}
use Rattle.lalrpop_norm_theory.specs.Types.{GroundType, is_chosen, chosen_or_all, HaveTupleType, IsTypeOf, type_scope}
use Rattle.lalrpop_norm_theory.specs.Types.{CallStep}
use Rattle.lalrpop_norm_theory.proofs.LevelLemmas.{no_loosest, no_rank}
use Rattle.lalrpop_norm_theory.specs.KeyRules.{AreWrittenFor, by_name, AreInstanceChoices}
use Rattle.lalrpop_norm_theory.specs.KeyRules.{IsKeyRule, IsMacroExpansion}
use Rattle.lalrpop_norm_theory.proofs.LevelOrderLemmas.{one_rule}
use Rattle.lalrpop_norm_theory.proofs.LevelChoiceLemmas.{choice_listed}
use Rattle.lalrpop_norm_theory.proofs.LevelFitLemmas.{flat_written}
use Rattle.lalrpop_norm_theory.specs.KeyTypes.{HasKeyRule, StandsInType}
use Rattle.lalrpop_norm_theory.proofs.TypeListLemmas.{Typing, tuple_forth, tuple_back}
use Rattle.lalrpop_norm_theory.proofs.KeyClosingLemmas.{keyed, listed_keyed, closes_named, side_named, IsUnkeyed, left_unkeyed}
use Rattle.lalrpop_norm_theory.proofs.KeyTypeLemmas.{PutsForth, PutsBack}

abbrev nt : Closed → GrammarSymbol Nonterminal
nt x = GrammarSymbol.nonterminal (Nonterminal.closed x)

pub chosen-named : (f : Closed → Text) (x : Closed) → is_chosen (by_name f x) ≡ is_chosen x
chosen-named f (Closed.terminal t) = refl
chosen-named f (Closed.call n args level) = refl
chosen-named f (Closed.repeat op x) = refl
chosen-named f (Closed.group xs) = refl
chosen-named f (Closed.choose x) = refl
chosen-named f (Closed.name m n x) = refl
chosen-named f Closed.lookahead = refl
chosen-named f Closed.lookbehind = refl
chosen-named f Closed.faulty = refl

-- what the step of a derivation rests on, there and back

-- what has a type by the one typing has it by the other under the name of its key, and its key has a rule
pub record IsForth (h : EnabledGrammar) (f : Closed → Text) (keys : List Closed) (P Q : Typing) : Type 0 where
  pub types : (x : Closed) (t : GroundType) → P x t → Q (by_name f x) t
  pub has_rule : (x : Closed) (t : GroundType) → P x t → HasKeyRule keys x

-- what has a rule for its key has no other types under the key's name, and what is no call and no literal has none
pub record IsBack (f : Closed → Text) (keys : List Closed) (P Q : Typing) : Type 0 where
  pub types : (x : Closed) → HasKeyRule keys x → (t : GroundType) → Q (by_name f x) t → P x t
  pub untyped : (x : Closed) → IsUnkeyed x → (t : GroundType) → Q x t → ⊥

-- declared types

no_names : (ps : List Text) → ps ≡ [] → (n : Text) → parameter_value (zip ps []) n ≡ None
no_names ps e n = ap (λ qs. parameter_value (zip qs []) n) e

-- read in the rule of a key, a symbol in a declared type has the types of what it stands for
pub puts_forth : (g h : EnabledGrammar) (f : Closed → Text) (keys : List Closed) → IsMacroExpansion g h f keys → (P Q : Typing) →
    IsForth h f keys P Q → (q : EnabledRule) → has_levels q ≡ false → q.parameters ≡ [] →
    PutsForth g.bares f keys P Q (type_scope h q Closeds.none)
puts_forth g h f keys w P Q b q flat none = record {
  symbols = λ x v i u p. symbol x v i u p;
  unbound = λ n. no_names q.parameters none n;
}
  where
    symbol : (x : Closed) (v : WrittenSymbol) → StandsInType g.bares f keys x v → (u : GroundType) → P x u →
        Q (sound_or_faulty (close (type_scope h q Closeds.none) 0 v)) u
    symbol x v (inl i) u p =
        subst (λ y. Q y u) (sym (closes_named g h f keys w (bind q Closeds.none) q.name (λ k. loosest q) (λ k. no_loosest q flat) 0 x v
        i.0 i.1)) (b.types x u p)
    symbol x v (inr i) u p = absurd (i.0 (b.has_rule x u p))

-- and it has no other types than those
pub puts_back : (g h : EnabledGrammar) (f : Closed → Text) (keys : List Closed) → IsMacroExpansion g h f keys → (P Q : Typing) →
    IsBack f keys P Q → (q : EnabledRule) → has_levels q ≡ false → q.parameters ≡ [] →
    PutsBack g.bares f keys P Q (type_scope h q Closeds.none)
puts_back g h f keys w P Q b q flat none = record {
  symbols = λ x v i u p. symbol x v i u p;
  unbound = λ n. no_names q.parameters none n;
}
  where
    symbol : (x : Closed) (v : WrittenSymbol) → StandsInType g.bares f keys x v → (u : GroundType) →
        Q (sound_or_faulty (close (type_scope h q Closeds.none) 0 v)) u → P x u
    symbol x v (inl i) u p =
        b.types x i.0 u (subst (λ y. Q y u) (closes_named g h f keys w (bind q Closeds.none) q.name (λ k. loosest q)
        (λ k. no_loosest q flat) 0 x v i.0 i.1) p)
    symbol x v (inr i) u p =
        absurd (b.untyped (sound_or_faulty (close (type_scope h q Closeds.none) 0 v))
        (left_unkeyed g h f keys w (type_scope h q Closeds.none) refl v i.1) u p)

-- a default alternative of a key's rule

-- a type of the symbols that a default alternative of a key's rule is made for is a type of the call of that rule
pub chosen_there : (g h : EnabledGrammar) (f : Closed → Text) (keys : List Closed) → IsMacroExpansion g h f keys → (P Q : Typing) →
    IsForth h f keys P Q → (x : Closed) (q : EnabledRule) → IsRule h (f x) q → IsKeyRule g f x q → q.declared ≡ None →
    (c : Choice) → Among q.choices c → c.condition ≡ None → c.action ≡ Action.default → (xs : List Closed) →
    ((y : Closed) → Among xs y → HasKeyRule keys y) → AreWrittenFor g.bares f xs c.expr → (t : GroundType) →
    HaveTupleType P (chosen_or_all xs) t → CallStep h Q (f x) Closeds.none None t
chosen_there g h f keys w P Q b x q is key undeclared c i free no_code xs has put t typed =
    inr (inl (record {
      rule = q;
      choice = (c, None);
      fits = record {
        rule = is;
        arguments = sym (ap length key.no_macro);
        written = flat_written q key.no_levels c i;
        leveled = sym key.no_levels;
        holds = subst (λ o. Holds h (bind q Closeds.none) o) (sym free) tt;
      };
      undeclared = undeclared;
      level_is = refl;
      no_code = no_code;
      type_is = tuple_forth (by_name f) (chosen-named f) P Q b.types xs (right_side h q (bind q Closeds.none) (c, None))
          (side_named g h f keys w q key.no_levels (bind q Closeds.none) c xs has put) t typed;
    }))

-- what a type of the key's call comes from
pub data KeyStep (h : EnabledGrammar) (f : Closed → Text) (Q : Typing) (x : Closed) (q : EnabledRule) (t : GroundType) : Type 0 where
  declared : (y : Ty) → q.declared ≡ Some y → IsTypeOf Q (type_scope h q Closeds.none) y t → KeyStep h f Q x q t
  chosen : (c : Choice) → Among q.choices c → q.declared ≡ None → c.action ≡ Action.default →
      HaveTupleType Q (chosen_or_all (right_side h q (bind q Closeds.none) (c, None))) t → KeyStep h f Q x q t

-- a type of the call of a key's rule comes from what it declares or from a default alternative
pub key_step : (h : EnabledGrammar) (f : Closed → Text) (Q : Typing) (x : Closed) (q : EnabledRule) → IsRule h (f x) q →
    has_levels q ≡ false → (t : GroundType) → CallStep h Q (f x) Closeds.none None t → KeyStep h f Q x q t
key_step h f Q x q is flat t (inl m) =
    let same : m.rule ≡ q = one_rule h (f x) m.rule q m.is_rule is in
    KeyStep.declared m.written (ap (λ (e : EnabledRule). e.declared) (sym same) ∙ m.declared)
    (subst (λ e. IsTypeOf Q (type_scope h e Closeds.none) m.written t) same m.type_is)
key_step h f Q x q is flat t (inr (inl m)) =
    let same : m.rule ≡ q = one_rule h (f x) m.rule q m.fits.rule is in
    let there = subst (λ e. Among (ranked_choices e) m.choice) same m.fits.written in
    let rank : m.choice.1 ≡ None = no_rank q m.choice flat there in
    let pair : m.choice ≡ (m.choice.0, None) = ap (λ a. (m.choice.0, a)) rank in
    KeyStep.chosen m.choice.0 (choice_listed q m.choice there) (ap (λ (e : EnabledRule). e.declared) (sym same) ∙ m.undeclared) m.no_code
    (subst (λ p. HaveTupleType Q (chosen_or_all (right_side h q (bind q Closeds.none) p)) t) pair
    (subst (λ e. HaveTupleType Q (chosen_or_all (right_side h e (bind e Closeds.none) m.choice)) t) same m.type_is))
key_step h f Q x q is flat t (inr (inr m)) = let e : None ≡ Some m.from = m.from_is in cc

-- a type of an alternative's right side in a key's rule is one of the symbols that it is made for
pub chosen_back : (g h : EnabledGrammar) (f : Closed → Text) (keys : List Closed) → IsMacroExpansion g h f keys → (P Q : Typing) →
    IsBack f keys P Q → (q : EnabledRule) → has_levels q ≡ false → (c : Choice) (xs : List Closed) →
    ((y : Closed) → Among xs y → HasKeyRule keys y) → AreWrittenFor g.bares f xs c.expr → (t : GroundType) →
    HaveTupleType Q (chosen_or_all (right_side h q (bind q Closeds.none) (c, None))) t → HaveTupleType P (chosen_or_all xs) t
chosen_back g h f keys w P Q b q flat c xs has put t typed =
    tuple_back (by_name f) (chosen-named f) (HasKeyRule keys) P Q b.types xs (right_side h q (bind q Closeds.none) (c, None))
    (side_named g h f keys w q flat (bind q Closeds.none) c xs has put) has t typed

-- alternatives of an instance

pub record StandsForChoice (g : EnabledGrammar) (f : Closed → Text) (r : EnabledRule) (args : Closeds) (p : Choice × Option Rank)
    (c : Choice) : Type 0 where
  pub holds : Holds g (bind r args) p.0.condition
  pub action : c.action ≡ p.0.action
  pub free : c.condition ≡ None
  pub put : AreWrittenFor g.bares f (right_side g r (bind r args) p) c.expr

-- each alternative of a macro whose condition holds has a choice in the instance that stands for it
pub instance_there : (g : EnabledGrammar) (f : Closed → Text) (r : EnabledRule) (args : Closeds) (ps : List (Choice × Option Rank))
    (cs : List Choice) → AreInstanceChoices g f r args ps cs → (p : Choice × Option Rank) → Among ps p →
    Holds g (bind r args) p.0.condition → (c : Choice) × Among cs c × StandsForChoice g f r args p c
instance_there g f r args [] cs i p j holds = absurd j
instance_there g f r args (q ∷ ps) cs (inl i) p (inl e) holds = (
  i.1,
  subst (λ l. Among l i.1) (sym i.3) (inl refl),
  subst (λ a. StandsForChoice g f r args a i.1) e
      (record { holds = i.0; action = i.6; free = i.4.unconditional; put = i.4.symbols }),
)
instance_there g f r args (q ∷ ps) cs (inl i) p (inr j) holds =
    let u = instance_there g f r args ps i.2 i.5 p j holds in (u.0, subst (λ l. Among l u.0) (sym i.3) (inr u.1), u.2)
instance_there g f r args (q ∷ ps) cs (inr i) p (inl e) holds =
    absurd (i.0 (subst (λ a. Holds g (bind r args) a.0.condition) (sym e) holds))
instance_there g f r args (q ∷ ps) cs (inr i) p (inr j) holds = instance_there g f r args ps cs i.1 p j holds

-- each choice of an instance stands for an alternative of the macro whose condition holds
pub instance_only : (g : EnabledGrammar) (f : Closed → Text) (r : EnabledRule) (args : Closeds) (ps : List (Choice × Option Rank))
    (cs : List Choice) → AreInstanceChoices g f r args ps cs → (c : Choice) → Among cs c →
    (p : Choice × Option Rank) × Among ps p × StandsForChoice g f r args p c
instance_only g f r args [] cs i c j = absurd (subst (λ l. Among l c) i j)
instance_only g f r args (q ∷ ps) cs (inl i) c j = go (subst (λ l. Among l c) i.3 j) (λ k. instance_only g f r args ps i.2 i.5 c k)
  where
    go : Among (i.1 ∷ i.2) c → (Among i.2 c → (p : Choice × Option Rank) × Among ps p × StandsForChoice g f r args p c) →
        (p : Choice × Option Rank) × Among (q ∷ ps) p × StandsForChoice g f r args p c
    go (inl e) later = (
      q,
      inl refl,
      subst (λ d. StandsForChoice g f r args q d) e
          (record { holds = i.0; action = i.6; free = i.4.unconditional; put = i.4.symbols }),
    )
    go (inr k) later = let u = later k in (u.0, inr u.1, u.2)
instance_only g f r args (q ∷ ps) cs (inr i) c j =
    let u = instance_only g f r args ps cs i.1 c j in (u.0, inr u.1, u.2)

-- parts of a key have rules

plus_part : (g h : EnabledGrammar) (f : Closed → Text) (keys : List Closed) → IsMacroExpansion g h f keys → (x : Closed) →
    Among keys (Closed.repeat Op.plus x) → HasKeyRule keys x
plus_part g h f keys w x i =
    keyed g h f keys w x
    (λ y e. w.closed (Closed.repeat Op.plus x) y Origin.plus_one (grammar_symbol x ∷ []) i (inl (refl, refl)) (inl e))

-- what a repeat that is a key repeats has the rule of its own key
pub repeat_part : (g h : EnabledGrammar) (f : Closed → Text) (keys : List Closed) → IsMacroExpansion g h f keys →
    (op : Op) (x : Closed) →
    Among keys (Closed.repeat op x) → HasKeyRule keys x
repeat_part g h f keys w Op.plus x i = plus_part g h f keys w x i
repeat_part g h f keys w Op.star x i =
    plus_part g h f keys w x (w.closed (Closed.repeat Op.star x) (Closed.repeat Op.plus x) Origin.star_some
    (nt (Closed.repeat Op.plus x) ∷ []) i (inr (refl, refl)) (inl refl))
repeat_part g h f keys w Op.question x i =
    keyed g h f keys w x
    (λ y e. w.closed (Closed.repeat Op.question x) y Origin.opt_some (grammar_symbol x ∷ []) i (inr (refl, refl)) (inl e))

-- each symbol of a group that is a key has the rule of its own key
pub group_parts : (g h : EnabledGrammar) (f : Closed → Text) (keys : List Closed) → IsMacroExpansion g h f keys → (xs : Closeds) →
    Among keys (Closed.group xs) → (x : Closed) → Among (closed_list xs) x → HasKeyRule keys x
group_parts g h f keys w xs i =
    listed_keyed g h f keys w (closed_list xs) (λ y j. w.closed (Closed.group xs) y Origin.group (map grammar_symbol (closed_list xs)) i
    (refl, refl) j)

-- each symbol of an alternative that fits a call that is a key has the rule of its own key
pub call_parts : (g h : EnabledGrammar) (f : Closed → Text) (keys : List Closed) → IsMacroExpansion g h f keys →
    (n : Text) (args : Closeds) →
    Among keys (Closed.call n args None) → (r : EnabledRule) (p : Choice × Option Rank) → Fits g n args r p → p.1 ≡ None →
    (x : Closed) → Among (right_side g r (bind r args) p) x → HasKeyRule keys x
call_parts g h f keys w n args i r p fits rank =
    listed_keyed g h f keys w (right_side g r (bind r args) p) (λ y j. w.closed (Closed.call n args None) y
    (origin_with (argument_list g.spelled args) p.0.origin) (map grammar_symbol (right_side g r (bind r args) p)) i
    (inl (record { rule = r; choice = p; fits = fits; level_is = ap rank_level rank; origin_is = refl; side_is = refl })) j)
