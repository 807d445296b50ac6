-- A finished table of keys names keys alone, and all in it is reached, so its rules keep the expansion; for the macro pass.
use Rattle.std.proofs.Common.{◌≡◌, ℕ, zero, suc, List, [], ◌∷◌, ◌++◌, refl, ap, sym, ◌∙◌, subst, inl}
use Rattle.std.proofs.Common.{inr, ◌⊎◌, false}
use Rattle.std.specs.Prelude.{Some, None, map}
use Rattle.lalrpop_grammar_symbols.specs.Symbols.{Text, Terminal, Op, Closed, Closeds, closed_list}
use Rattle.lalrpop_grammar.specs.WrittenGrammar.{Origin}
use Rattle.lalrpop_grammar_language.specs.Among.{Among}
use Rattle.lalrpop_grammar_language.specs.Enabled.{EnabledGrammar, EnabledRule, IsRule}
use Rattle.lalrpop_grammar_language.specs.Levels.{has_levels}
use Rattle.lalrpop_grammar_language.specs.Closing.{right_side, inner}
use Rattle.lalrpop_grammar_language.specs.Admitting.{bind}
use Rattle.lalrpop_grammar_language.specs.Expansion.{GrammarSymbol, Nonterminal, RightSide, grammar_symbol, Produces, IsRoot, InExpansion}
use Rattle.lalrpop_grammar_language.proofs.SoundnessLemmas.{part-sub}
use Rattle.lalrpop_norm_theory.specs.Depth.{calls_in, calls_in_all, calls_in_grammar_symbol, CallOccursIn, HasCallChain}
use Rattle.lalrpop_norm_theory.specs.Rounds.{AreCallsToDepth}
use Rattle.lalrpop_norm_theory.specs.Same.{SameExpansion}
use Rattle.lalrpop_grammar_language.proofs.StepLemmas.{among_right}
use Rattle.lalrpop_grammar_language.proofs.StepLemmas.{among_left}
use Rattle.lalrpop_grammar_language.proofs.OrderLemmas.{among_parts}
use Rattle.lalrpop_norm_theory.specs.KeyRules.{IsMacroExpansion, nonterminal_by_name}
use Rattle.lalrpop_norm_theory.specs.KeyTables.{keys_in, keys_in_all, IsNoCall, KeyStandsIn, IsPlainKey, IsMetKey, IsKeyTable}
use Rattle.lalrpop_norm_theory.specs.KeyTables.{AreKeyRules}
use Rattle.lalrpop_norm_theory.proofs.KeyRuleLemmas.{expanded, rule_name}

abbrev nt : Closed → GrammarSymbol Nonterminal
nt x = GrammarSymbol.nonterminal (Nonterminal.closed x)

-- the nonterminal that a symbol becomes in a right side is one of the keys that stand in the symbol
pub part_stands : (x y : Closed) → grammar_symbol x ≡ nt y → Among (keys_in x) y
part_stands (Closed.terminal (Terminal.quoted t)) y e = cc
part_stands (Closed.terminal (Terminal.regex t)) y e = cc
part_stands (Closed.terminal (Terminal.bare t)) y e = cc
part_stands (Closed.terminal Terminal.error) y e = inl (cc)
part_stands (Closed.call n args level) y e = inl (cc)
part_stands (Closed.repeat Op.plus x) y e = inl (cc)
part_stands (Closed.repeat Op.star x) y e = inl (cc)
part_stands (Closed.repeat Op.question x) y e = inl (cc)
part_stands (Closed.group xs) y e = inl (cc)
part_stands (Closed.choose x) y e = part_stands x y e
part_stands (Closed.name m n x) y e = part_stands x y e
part_stands Closed.lookahead y e = inl (cc)
part_stands Closed.lookbehind y e = inl (cc)
part_stands Closed.faulty y e = inl (cc)

parts_stand : (xs : Closeds) (y : Closed) → Among (map grammar_symbol (closed_list xs)) (nt y) → Among (keys_in_all xs) y
parts_stand Closeds.none y h = absurd h
parts_stand (Closeds.more x xs) y (inl e) = among_left (keys_in x) (keys_in_all xs) y (part_stands x y e)
parts_stand (Closeds.more x xs) y (inr h) = among_right (keys_in x) (keys_in_all xs) y (parts_stand xs y h)

one_part : (x y : Closed) (side : RightSide) → side ≡ grammar_symbol x ∷ [] → Among side (nt y) → Among (keys_in x) y
one_part x y side e h = go (subst (λ s. Among s (nt y)) e h)
  where
    go : Among (grammar_symbol x ∷ []) (nt y) → Among (keys_in x) y
    go (inl f) = part_stands x y f
    go (inr k) = absurd k

-- what is made of repeats, groups and lookarounds stands in them
pub shape_makes : (g : EnabledGrammar) (z y : Closed) (o : Origin) (side : RightSide) → IsNoCall z →
    Produces g (Nonterminal.closed z) o side → Among side (nt y) → Among (keys_in z) y
shape_makes g (Closed.terminal t) y o side s m h = absurd m
shape_makes g (Closed.call n args level) y o side s m h = absurd s
shape_makes g (Closed.repeat Op.plus x) y o side s (inl m) h = inr (one_part x y side m.1 h)
shape_makes g (Closed.repeat Op.plus x) y o side s (inr m) h = go (subst (λ l. Among l (nt y)) m.1 h)
  where
    go : Among (nt (Closed.repeat Op.plus x) ∷ grammar_symbol x ∷ []) (nt y) → Among (keys_in (Closed.repeat Op.plus x)) y
    go (inl e) = inl (cc)
    go (inr k) = inr (one_part x y (grammar_symbol x ∷ []) refl k)
shape_makes g (Closed.repeat Op.star x) y o side s (inl m) h = absurd (subst (λ l. Among l (nt y)) m.1 h)
shape_makes g (Closed.repeat Op.star x) y o side s (inr m) h = go (subst (λ l. Among l (nt y)) m.1 h)
  where
    go : Among (nt (Closed.repeat Op.plus x) ∷ []) (nt y) → Among (keys_in (Closed.repeat Op.star x)) y
    go (inl e) = inr (inl (cc))
    go (inr k) = absurd k
shape_makes g (Closed.repeat Op.question x) y o side s (inl m) h = absurd (subst (λ l. Among l (nt y)) m.1 h)
shape_makes g (Closed.repeat Op.question x) y o side s (inr m) h = inr (one_part x y side m.1 h)
shape_makes g (Closed.group xs) y o side s m h = inr (parts_stand xs y (subst (λ l. Among l (nt y)) m.1 h))
shape_makes g (Closed.choose x) y o side s m h = absurd m
shape_makes g (Closed.name a n x) y o side s m h = absurd m
shape_makes g Closed.lookahead y o side s m h = absurd (subst (λ l. Among l (nt y)) m.1 h)
shape_makes g Closed.lookbehind y o side s m h = absurd (subst (λ l. Among l (nt y)) m.1 h)
shape_makes g Closed.faulty y o side s m h = absurd m

-- what stands in what stands in a symbol stands in it
mutual
  pub stands_trans : (s z y : Closed) → Among (keys_in s) z → Among (keys_in z) y → Among (keys_in s) y
  stands_trans (Closed.terminal (Terminal.quoted t)) z y h k = absurd h
  stands_trans (Closed.terminal (Terminal.regex t)) z y h k = absurd h
  stands_trans (Closed.terminal (Terminal.bare t)) z y h k = absurd h
  stands_trans (Closed.terminal Terminal.error) z y (inl e) k = subst (λ a. Among (keys_in a) y) (sym e) k
  stands_trans (Closed.terminal Terminal.error) z y (inr h) k = absurd h
  stands_trans (Closed.call n args level) z y (inl e) k = subst (λ a. Among (keys_in a) y) (sym e) k
  stands_trans (Closed.call n args level) z y (inr h) k = absurd h
  stands_trans (Closed.repeat Op.plus x) z y (inl e) k = subst (λ a. Among (keys_in a) y) (sym e) k
  stands_trans (Closed.repeat Op.plus x) z y (inr h) k = inr (stands_trans x z y h k)
  stands_trans (Closed.repeat Op.star x) z y (inl e) k = subst (λ a. Among (keys_in a) y) (sym e) k
  stands_trans (Closed.repeat Op.star x) z y (inr (inl e)) k = inr (subst (λ a. Among (keys_in a) y) (sym e) k)
  stands_trans (Closed.repeat Op.star x) z y (inr (inr h)) k = inr (inr (stands_trans x z y h k))
  stands_trans (Closed.repeat Op.question x) z y (inl e) k = subst (λ a. Among (keys_in a) y) (sym e) k
  stands_trans (Closed.repeat Op.question x) z y (inr h) k = inr (stands_trans x z y h k)
  stands_trans (Closed.group xs) z y (inl e) k = subst (λ a. Among (keys_in a) y) (sym e) k
  stands_trans (Closed.group xs) z y (inr h) k = inr (stands_trans_all xs z y h k)
  stands_trans (Closed.choose x) z y h k = stands_trans x z y h k
  stands_trans (Closed.name m n x) z y h k = stands_trans x z y h k
  stands_trans Closed.lookahead z y (inl e) k = subst (λ a. Among (keys_in a) y) (sym e) k
  stands_trans Closed.lookahead z y (inr h) k = absurd h
  stands_trans Closed.lookbehind z y (inl e) k = subst (λ a. Among (keys_in a) y) (sym e) k
  stands_trans Closed.lookbehind z y (inr h) k = absurd h
  stands_trans Closed.faulty z y (inl e) k = subst (λ a. Among (keys_in a) y) (sym e) k
  stands_trans Closed.faulty z y (inr h) k = absurd h

  pub stands_trans_all : (xs : Closeds) (z y : Closed) → Among (keys_in_all xs) z → Among (keys_in z) y → Among (keys_in_all xs) y
  stands_trans_all Closeds.none z y h k = absurd h
  stands_trans_all (Closeds.more x xs) z y h k =
      either (among_parts (keys_in x) (keys_in_all xs) z h) (λ i. stands_trans x z y i k) (λ i. stands_trans_all xs z y i k)
    where
      either : Among (keys_in x) z ⊎ Among (keys_in_all xs) z → (Among (keys_in x) z → Among (keys_in x) y) →
          (Among (keys_in_all xs) z → Among (keys_in_all xs) y) → Among (keys_in x ++ keys_in_all xs) y
      either (inl i) a b = among_left (keys_in x) (keys_in_all xs) y (a i)
      either (inr i) a b = among_right (keys_in x) (keys_in_all xs) y (b i)

-- what stands in a reached symbol is reached
abbrev pub Gives : EnabledGrammar → Closed → Type 0
Gives g x = (y : Closed) → grammar_symbol x ≡ nt y → InExpansion g (Nonterminal.closed y)

abbrev pub AllGive : EnabledGrammar → Closeds → Type 0
AllGive g xs = (y : Closed) → Among (map grammar_symbol (closed_list xs)) (nt y) → InExpansion g (Nonterminal.closed y)

step : (g : EnabledGrammar) (z y : Closed) (o : Origin) (side : RightSide) → InExpansion g (Nonterminal.closed z) →
    Produces g (Nonterminal.closed z) o side → Among side (nt y) → InExpansion g (Nonterminal.closed y)
step g z y o side i m h = (suc i.0, (Nonterminal.closed z, o, side, i.1, m, h))

mutual
  pub reach : (g : EnabledGrammar) (x z : Closed) → Gives g x → Among (keys_in x) z → InExpansion g (Nonterminal.closed z)
  reach g (Closed.terminal (Terminal.quoted t)) z w h = absurd h
  reach g (Closed.terminal (Terminal.regex t)) z w h = absurd h
  reach g (Closed.terminal (Terminal.bare t)) z w h = absurd h
  reach g (Closed.terminal Terminal.error) z w (inl e) = w z (ap (λ a. nt a) e)
  reach g (Closed.terminal Terminal.error) z w (inr h) = absurd h
  reach g (Closed.call n args level) z w (inl e) = w z (ap (λ a. nt a) e)
  reach g (Closed.call n args level) z w (inr h) = absurd h
  reach g (Closed.repeat Op.plus x) z w (inl e) = w z (ap (λ a. nt a) e)
  reach g (Closed.repeat Op.plus x) z w (inr h) =
      reach g x z (λ y e. step g (Closed.repeat Op.plus x) y Origin.plus_one (grammar_symbol x
      ∷ []) (w (Closed.repeat Op.plus x) refl) (inl (refl, refl)) (inl e)) h
  reach g (Closed.repeat Op.star x) z w (inl e) = w z (ap (λ a. nt a) e)
  reach g (Closed.repeat Op.star x) z w (inr (inl e)) =
      step g (Closed.repeat Op.star x) z Origin.star_some (nt (Closed.repeat Op.plus x) ∷ []) (w (Closed.repeat Op.star x) refl)
      (inr (refl, refl)) (inl (ap (λ a. nt a) e))
  reach g (Closed.repeat Op.star x) z w (inr (inr h)) =
      let p = step g (Closed.repeat Op.star x) (Closed.repeat Op.plus x) Origin.star_some (nt (Closed.repeat Op.plus x)
      ∷ []) (w (Closed.repeat Op.star x) refl) (inr (refl, refl)) (inl refl) in
      reach g x z (λ y e. step g (Closed.repeat Op.plus x) y Origin.plus_one (grammar_symbol x ∷ []) p (inl (refl, refl)) (inl e)) h
  reach g (Closed.repeat Op.question x) z w (inl e) = w z (ap (λ a. nt a) e)
  reach g (Closed.repeat Op.question x) z w (inr h) =
      reach g x z (λ y e. step g (Closed.repeat Op.question x) y Origin.opt_some (grammar_symbol x
      ∷ []) (w (Closed.repeat Op.question x) refl) (inr (refl, refl)) (inl e)) h
  reach g (Closed.group xs) z w (inl e) = w z (ap (λ a. nt a) e)
  reach g (Closed.group xs) z w (inr h) =
      reach_all g xs z (λ y i. step g (Closed.group xs) y Origin.group (map grammar_symbol (closed_list xs))
      (w (Closed.group xs) refl) (refl, refl) i) h
  reach g (Closed.choose x) z w h = reach g x z w h
  reach g (Closed.name m n x) z w h = reach g x z w h
  reach g Closed.lookahead z w (inl e) = w z (ap (λ a. nt a) e)
  reach g Closed.lookahead z w (inr h) = absurd h
  reach g Closed.lookbehind z w (inl e) = w z (ap (λ a. nt a) e)
  reach g Closed.lookbehind z w (inr h) = absurd h
  reach g Closed.faulty z w (inl e) = w z (ap (λ a. nt a) e)
  reach g Closed.faulty z w (inr h) = absurd h

  pub reach_all : (g : EnabledGrammar) (xs : Closeds) (z : Closed) → AllGive g xs → Among (keys_in_all xs) z →
      InExpansion g (Nonterminal.closed z)
  reach_all g Closeds.none z w h = absurd h
  reach_all g (Closeds.more x xs) z w h =
      either (among_parts (keys_in x) (keys_in_all xs) z h) (λ i. reach g x z (λ y e. w y (inl e)) i)
      (λ i. reach_all g xs z (λ y j. w y (inr j)) i)
    where
      either : Among (keys_in x) z ⊎ Among (keys_in_all xs) z → (Among (keys_in x) z → InExpansion g (Nonterminal.closed z)) →
          (Among (keys_in_all xs) z → InExpansion g (Nonterminal.closed z)) → InExpansion g (Nonterminal.closed z)
      either (inl i) a b = a i
      either (inr i) a b = b i

stood_reached : (g : EnabledGrammar) (y z : Closed) → InExpansion g (Nonterminal.closed y) → KeyStandsIn g y z →
    InExpansion g (Nonterminal.closed z)
stood_reached g y z i s =
    reach g s.symbol z (λ v e. step g y v s.origin s.side i s.produced (subst (Among s.side) e s.in_side)) s.stands

-- a call that occurs stands there
mutual
  calls_stand : (x c : Closed) → Among (calls_in x) c → Among (keys_in x) c
  calls_stand (Closed.terminal t) c h = absurd h
  calls_stand (Closed.call n Closeds.none level) c h = absurd h
  calls_stand (Closed.call n (Closeds.more a args) level) c h = h
  calls_stand (Closed.repeat Op.plus x) c h = inr (calls_stand x c h)
  calls_stand (Closed.repeat Op.star x) c h = inr (inr (calls_stand x c h))
  calls_stand (Closed.repeat Op.question x) c h = inr (calls_stand x c h)
  calls_stand (Closed.group xs) c h = inr (calls_stand_all xs c h)
  calls_stand (Closed.choose x) c h = calls_stand x c h
  calls_stand (Closed.name m n x) c h = calls_stand x c h
  calls_stand Closed.lookahead c h = absurd h
  calls_stand Closed.lookbehind c h = absurd h
  calls_stand Closed.faulty c h = absurd h

  calls_stand_all : (xs : Closeds) (c : Closed) → Among (calls_in_all xs) c → Among (keys_in_all xs) c
  calls_stand_all Closeds.none c h = absurd h
  calls_stand_all (Closeds.more x xs) c h =
      either (among_parts (calls_in x) (calls_in_all xs) c h) (λ i. calls_stand x c i) (λ i. calls_stand_all xs c i)
    where
      either : Among (calls_in x) c ⊎ Among (calls_in_all xs) c → (Among (calls_in x) c → Among (keys_in x) c) →
          (Among (calls_in_all xs) c → Among (keys_in_all xs) c) → Among (keys_in x ++ keys_in_all xs) c
      either (inl i) a b = among_left (keys_in x) (keys_in_all xs) c (a i)
      either (inr i) a b = among_right (keys_in x) (keys_in_all xs) c (b i)

-- a symbol of a right side is no name and no choice
pub self_part : (x v : Closed) → grammar_symbol x ≡ nt v → grammar_symbol v ≡ nt v
self_part x v e =
    let i : inner x ≡ v = part-sub x v e in
    sym (ap grammar_symbol i) ∙ again x ∙ e
  where
    again : (y : Closed) → grammar_symbol (inner y) ≡ grammar_symbol y
    again (Closed.terminal t) = refl
    again (Closed.call n args l) = refl
    again (Closed.repeat op y) = refl
    again (Closed.group xs) = refl
    again (Closed.choose y) = again y
    again (Closed.name m n y) = again y
    again Closed.lookahead = refl
    again Closed.lookbehind = refl
    again Closed.faulty = refl

map_self : (xs : List Closed) (v : Closed) → Among (map grammar_symbol xs) (nt v) → grammar_symbol v ≡ nt v
map_self [] v h = absurd h
map_self (x ∷ xs) v (inl e) = self_part x v e
map_self (x ∷ xs) v (inr h) = map_self xs v h

-- a right side that is the parts of some symbols
abbrev pub AreParts : RightSide → Type 0
AreParts side = (xs : List Closed) × (side ≡ map grammar_symbol xs)

pub makes_parts : (g : EnabledGrammar) (y : Closed) (o : Origin) (side : RightSide) → Produces g (Nonterminal.closed y) o side →
    AreParts side
makes_parts g (Closed.terminal t) o side m = absurd m
makes_parts g (Closed.call n args level) o side (inl m) = (right_side g m.rule (bind m.rule args) m.choice, m.side_is)
makes_parts g (Closed.call n args level) o side (inr m) = (Closed.call n args (Some m.to) ∷ [], m.side_is)
makes_parts g (Closed.repeat Op.plus x) o side (inl m) = (x ∷ [], m.1)
makes_parts g (Closed.repeat Op.plus x) o side (inr m) = (Closed.repeat Op.plus x ∷ x ∷ [], m.1)
makes_parts g (Closed.repeat Op.star x) o side (inl m) = ([], m.1)
makes_parts g (Closed.repeat Op.star x) o side (inr m) = (Closed.repeat Op.plus x ∷ [], m.1)
makes_parts g (Closed.repeat Op.question x) o side (inl m) = ([], m.1)
makes_parts g (Closed.repeat Op.question x) o side (inr m) = (x ∷ [], m.1)
makes_parts g (Closed.group xs) o side m = (closed_list xs, m.1)
makes_parts g (Closed.choose x) o side m = absurd m
makes_parts g (Closed.name a n x) o side m = absurd m
makes_parts g Closed.lookahead o side m = ([], m.1)
makes_parts g Closed.lookbehind o side m = ([], m.1)
makes_parts g Closed.faulty o side m = absurd m

occurs_one : (g : EnabledGrammar) (y x : Closed) (o : Origin) (side : RightSide) (p : GrammarSymbol Nonterminal) →
    InExpansion g (Nonterminal.closed y) → Produces g (Nonterminal.closed y) o side → Among (calls_in_grammar_symbol p) x →
    Among side p → InExpansion g (Nonterminal.closed x)
occurs_one g y x o side (GrammarSymbol.terminal t) i m c j = absurd c
occurs_one g y x o side (GrammarSymbol.nonterminal (Nonterminal.start n)) i m c j = absurd c
occurs_one g y x o side (GrammarSymbol.nonterminal (Nonterminal.closed v)) i m c j =
    let w = makes_parts g y o side m in
    let self : grammar_symbol v ≡ nt v = map_self w.0 v (subst (λ l. Among l (nt v)) w.1 j) in
    reach g v x (λ u e. step g y u o side i m (subst (Among side) (sym self ∙ e) j)) (calls_stand v x c)

-- a call that occurs in what the expansion has is in it
pub occurs_reached : (g : EnabledGrammar) (y x : Closed) → InExpansion g (Nonterminal.closed y) → CallOccursIn g y x →
    InExpansion g (Nonterminal.closed x)
occurs_reached g y x i o = occurs_one g y x o.origin o.side o.symbol i o.produced o.call_is o.in_side

-- what a chain leads to is in the expansion
pub chain_reached : (g : EnabledGrammar) (k : ℕ) (x : Closed) → HasCallChain g k x → InExpansion g (Nonterminal.closed x)
chain_reached g zero x c = absurd c
chain_reached g (suc zero) x (y, r, o) = occurs_reached g y x (zero, r) o
chain_reached g (suc (suc k)) x (y, c, o) = occurs_reached g y x (chain_reached g (suc k) y c) o

-- no rule has levels
abbrev pub AreFlat : EnabledGrammar → Type 0
AreFlat g = (n : Text) (r : EnabledRule) → IsRule g n r → has_levels r ≡ false

-- a rule that is no macro is a root
plain_root : (g : EnabledGrammar) (z : Closed) → AreFlat g → IsPlainKey g z → IsRoot g (Nonterminal.closed z)
plain_root g z flats p =
    let e : p.rule.name ≡ p.name = rule_name g p.name p.rule p.is_rule in
    inr (
      p.rule,
      None,
      subst (λ t. IsRule g t p.rule) (sym e) p.is_rule,
      p.no_macro,
      flats p.name p.rule p.is_rule,
      ap Nonterminal.closed p.key_is ∙ ap (λ t. Nonterminal.closed (Closed.call t Closeds.none None)) (sym e),
    )

-- the expansion has each key of a finished table
pub table_reached : (g : EnabledGrammar) (depth : ℕ) (calls keys : List Closed) → AreFlat g → AreCallsToDepth g depth calls [] →
    IsKeyTable g calls keys → (x : Closed) → Among keys x → InExpansion g (Nonterminal.closed x)
table_reached g depth calls keys flats a t x h = go (t.no_other x h)
  where
    of_call : (y : Closed) → Among calls y → InExpansion g (Nonterminal.closed y)
    of_call y i = let c = a.chains y i in chain_reached g c.0 y c.2

    of_walked : (y : Closed) → IsRoot g (Nonterminal.closed y) ⊎ Among calls y → InExpansion g (Nonterminal.closed y)
    of_walked y (inl r) = (zero, r)
    of_walked y (inr i) = of_call y i

    go : IsPlainKey g x ⊎ (Among calls x ⊎ IsMetKey g calls x) → InExpansion g (Nonterminal.closed x)
    go (inl p) = (zero, plain_root g x flats p)
    go (inr (inl i)) = of_call x i
    go (inr (inr s)) = stood_reached g s.holder x (of_walked s.holder s.walked) s.stands

-- a finished table has what its keys produce
pub table_closed : (g : EnabledGrammar) (calls keys : List Closed) → AreFlat g → IsKeyTable g calls keys → (x y : Closed) (o : Origin)
    (side : RightSide) → Among keys x → Produces g (Nonterminal.closed x) o side → Among side (nt y) → Among keys y
table_closed g calls keys flats t x y o side h m i = go (t.no_other x h)
  where
    stands : KeyStandsIn g x y
    stands =
        let w = makes_parts g x o side m in
        let self : grammar_symbol y ≡ nt y = map_self w.0 y (subst (λ l. Among l (nt y)) w.1 i) in
        record {
          origin = o;
          side = side;
          symbol = y;
          produced = m;
          in_side = subst (Among side) (sym self) i;
          stands = part_stands y y self;
        }

    go : IsPlainKey g x ⊎ (Among calls x ⊎ IsMetKey g calls x) → Among keys y
    go (inl p) = t.complete x y (inl (plain_root g x flats p)) stands
    go (inr (inl c)) = t.complete x y (inr c) stands
    go (inr (inr s)) = t.complete s.holder y s.walked (record {
      origin = s.stands.origin;
      side = s.stands.side;
      symbol = s.stands.symbol;
      produced = s.stands.produced;
      in_side = s.stands.in_side;
      stands = stands_trans s.stands.symbol x y s.stands.stands (shape_makes g x y o side s.no_call m i);
    })

-- the rules of a finished table are a macro expansion
pub table_expansion : (g h : EnabledGrammar) (f : Closed → Text) (depth : ℕ) (calls keys : List Closed) → AreFlat g →
    AreCallsToDepth g depth calls [] → IsKeyTable g calls keys → AreKeyRules g h f keys → IsMacroExpansion g h f keys
table_expansion g h f depth calls keys flats a t m = record {
  no_levels = flats;
  bares = m.bares;
  plain = λ n r i p. (t.plain n r i p, m.own n r i p);
  rules = m.rules;
  no_other = m.no_other;
  public = m.public;
  private = m.private;
  closed = table_closed g calls keys flats t;
  reached = table_reached g depth calls keys flats a t;
  keys_only = m.keys_only;
  apart = m.apart;
}

-- so they keep the expansion
pub table_same : (g h : EnabledGrammar) (f : Closed → Text) (depth : ℕ) (calls keys : List Closed) → AreFlat g →
    AreCallsToDepth g depth calls [] → IsKeyTable g calls keys → AreKeyRules g h f keys → SameExpansion g h (nonterminal_by_name f)
table_same g h f depth calls keys flats a t m = expanded g h f keys (table_expansion g h f depth calls keys flats a t m)
