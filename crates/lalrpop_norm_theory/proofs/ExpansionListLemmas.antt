-- The roots, the nonterminals and the calls of an expansion as lists, with what they mean; for the examples.
use Rattle.std.proofs.Common.{◌≡◌, ℕ, zero, suc, ◌≤◌, List, [], ◌∷◌, ◌++◌, refl, ap, sym, ◌∙◌, subst}
use Rattle.std.proofs.Common.{cond, Bool, true, false, inl}
use Rattle.std.proofs.Common.{inr, ◌⊎◌, arith}
use Rattle.std.specs.Prelude.{Option, Some, None, ◌&&◌, not, map, flat_map, if◌then◌else◌}
use Rattle.std.specs.List.{list_all}
use Rattle.std.proofs.lemmas.Bool.{and_from, and_parts}
use Rattle.lalrpop_grammar_symbols.specs.Symbols.{Text, Closed, Closeds}
use Rattle.lalrpop_grammar.specs.WrittenGrammar.{Origin}
use Rattle.lalrpop_grammar_language.specs.Among.{Among}
use Rattle.lalrpop_grammar_language.specs.Enabled.{EnabledGrammar, EnabledRule, IsRule, rules_named, has_name}
use Rattle.lalrpop_grammar_language.specs.Levels.{levels, has_levels, loosest}
use Rattle.lalrpop_grammar_language.specs.Starts.{has_none}
use Rattle.lalrpop_grammar_language.specs.Expansion.{GrammarSymbol, Nonterminal, RightSide, HasLevel, IsRoot, IsReachedIn}
use Rattle.lalrpop_grammar_language.specs.Expansion.{InExpansion}
use Rattle.lalrpop_grammar_language.proofs.PlaceLemmas.{same_text-eq, among_map, among_filter}
use Rattle.lalrpop_grammar_language.proofs.ComparisonLemmas.{same_text-refl}
use Rattle.lalrpop_norm_theory.specs.Depth.{calls_in_grammar_symbol, CallOccursIn, HasCallChain, IsTooDeep}
use Rattle.lalrpop_grammar_language.proofs.AmongLemmas.{flat_map_among}
use Rattle.lalrpop_grammar_language.proofs.AmongLemmas.{map_among}
use Rattle.lalrpop_grammar_language.proofs.AmongLemmas.{among_flat_map}
use Rattle.lalrpop_grammar_language.proofs.StepLemmas.{among_right}
use Rattle.lalrpop_grammar_language.proofs.StepLemmas.{among_left}
use Rattle.lalrpop_grammar_language.proofs.OrderLemmas.{among_parts}
use Rattle.lalrpop_norm_theory.proofs.ClosedComparisonLemmas.{all-each, has_closed, has_closed-among, not-has_closed}
use Rattle.lalrpop_norm_theory.proofs.ClosedComparisonLemmas.{has_nonterminal, has_nonterminal-among}
use Rattle.lalrpop_norm_theory.proofs.ProductionListLemmas.{productions_of, listed, is_production}
use Rattle.lalrpop_norm_theory.proofs.DepthLemmas.{longer_chain}
use Rattle.lalrpop_norm_theory.proofs.LevelLemmas.{no_levels, keeps, below_or_last}

-- roots

abbrev is_single : List EnabledRule → Bool
is_single [] = false
is_single (r ∷ []) = true
is_single (r ∷ s ∷ rs) = false

abbrev start_of : EnabledRule → List Nonterminal
start_of r = if r.public then Nonterminal.start r.name ∷ [] else []

abbrev at_levels : EnabledRule → List Nonterminal
at_levels r =
    if has_levels r then map (λ l. Nonterminal.closed (Closed.call r.name Closeds.none (Some l))) (levels r)
    else Nonterminal.closed (Closed.call r.name Closeds.none None) ∷ []

abbrev roots_of_rule : EnabledGrammar → EnabledRule → List Nonterminal
roots_of_rule g r = if is_single (rules_named g r.name) && has_none r.parameters then start_of r ++ at_levels r else []

-- the roots of the expansion
abbrev pub roots : EnabledGrammar → List Nonterminal
roots g = flat_map (roots_of_rule g) g.rules

-- a rule stands among the rules, under its name
pub rule_there : (g : EnabledGrammar) (n : Text) (r : EnabledRule) → IsRule g n r → Among g.rules r × (r.name ≡ n)
rule_there g n r i =
    let w = among_filter (has_name n) g.rules r (subst (λ l. Among l r) (sym i) (inl refl)) in
    (w.0, same_text-eq r.name n w.1)

none-has : (ps : List Text) → ps ≡ [] → has_none ps ≡ true
none-has ps e = ap has_none e

has-none : (ps : List Text) → has_none ps ≡ true → ps ≡ []
has-none [] h = refl
has-none (p ∷ ps) h = cc

in_rule : (g : EnabledGrammar) (r : EnabledRule) (x : Nonterminal) → IsRule g r.name r → r.parameters ≡ [] →
    Among (start_of r ++ at_levels r) x → Among (roots_of_rule g r) x
in_rule g r x i e h =
    go (is_single (rules_named g r.name) && has_none r.parameters)
    (and_from (is_single (rules_named g r.name)) (has_none r.parameters) (ap is_single i) (none-has r.parameters e)) h
  where
    go : (b : Bool) → b ≡ true → Among (start_of r ++ at_levels r) x → Among (cond b (start_of r ++ at_levels r) []) x
    go true k j = j
    go false k j = cc

start_in : (r : EnabledRule) → r.public ≡ true → Among (start_of r) (Nonterminal.start r.name)
start_in r h = go r.public h
  where
    go : (b : Bool) → b ≡ true → Among (cond b (Nonterminal.start r.name ∷ []) []) (Nonterminal.start r.name)
    go true k = inl refl
    go false k = cc

level_in_list : (r : EnabledRule) (level : Option ℕ) → HasLevel r level →
    Among (at_levels r) (Nonterminal.closed (Closed.call r.name Closeds.none level))
level_in_list r None h = go (has_levels r) h
  where
    go : (b : Bool) → b ≡ false →
        Among (cond b (map (λ l. Nonterminal.closed (Closed.call r.name Closeds.none (Some l))) (levels r))
        (Nonterminal.closed (Closed.call r.name Closeds.none None) ∷ [])) (Nonterminal.closed (Closed.call r.name Closeds.none None))
    go true k = cc
    go false k = inl refl
level_in_list r (Some l) h = go (has_levels r) refl
  where
    flat_none : has_levels r ≡ false → ⊥
    flat_none e = absurd (subst (λ ls. Among ls l) (no_levels r e) h)

    go : (b : Bool) → has_levels r ≡ b →
        Among (cond b (map (λ l. Nonterminal.closed (Closed.call r.name Closeds.none (Some l))) (levels r))
        (Nonterminal.closed (Closed.call r.name Closeds.none None) ∷ [])) (Nonterminal.closed (Closed.call r.name Closeds.none (Some l)))
    go true k = map_among (λ l. Nonterminal.closed (Closed.call r.name Closeds.none (Some l))) (levels r) l h
    go false k = absurd (flat_none k)

-- each root is listed
pub root-listed : (g : EnabledGrammar) (x : Nonterminal) → IsRoot g x → Among (roots g) x
root-listed g x (inl (n, side, e, m)) =
    let w = rule_there g n m.0 m.1 in
    let i : IsRule g m.0.name m.0 = subst (λ t. IsRule g t m.0) (sym w.1) m.1 in
    subst (Among (roots g)) (ap Nonterminal.start w.1 ∙ sym e)
    (flat_map_among (roots_of_rule g) g.rules m.0 (Nonterminal.start m.0.name) w.0
    (in_rule g m.0 (Nonterminal.start m.0.name) i m.2
    (among_left (start_of m.0) (at_levels m.0) (Nonterminal.start m.0.name) (start_in m.0 m.3))))
root-listed g x (inr (r, level, i, ps, h, e)) =
    let y : Nonterminal = Nonterminal.closed (Closed.call r.name Closeds.none level) in
    let w = rule_there g r.name r i in
    subst (Among (roots g)) (sym e)
    (flat_map_among (roots_of_rule g) g.rules r y w.0
    (in_rule g r y i ps (among_right (start_of r) (at_levels r) y (level_in_list r level h))))

-- what is listed is a root
pub is_root : (g : EnabledGrammar) (x : Nonterminal) → Among (roots g) x → IsRoot g x
is_root g x h =
    let w = among_flat_map (roots_of_rule g) g.rules x h in
    go w.0 w.1 (is_single (rules_named g w.0.name) && has_none w.0.parameters) refl w.2
  where
    there : (r : EnabledRule) → Among g.rules r → Among (rules_named g r.name) r
    there r i = keeps (has_name r.name) g.rules r i (same_text-refl r.name)

    alone : (r : EnabledRule) (rs : List EnabledRule) → is_single rs ≡ true → Among rs r → rs ≡ r ∷ []
    alone r [] e i = cc
    alone r (q ∷ []) e (inl k) = ap (λ a. a ∷ []) k
    alone r (q ∷ []) e (inr k) = absurd k
    alone r (q ∷ s ∷ rs) e i = cc

    of_start : (r : EnabledRule) → IsRule g r.name r → r.parameters ≡ [] → (b : Bool) → r.public ≡ b →
        Among (cond b (Nonterminal.start r.name ∷ []) []) x → IsRoot g x
    of_start r i ps true e (inl k) =
        inl (
          r.name,
          GrammarSymbol.nonterminal (Nonterminal.closed (Closed.call r.name Closeds.none (loosest r))) ∷ [],
          sym k,
          (r, i, ps, e, refl, refl),
        )
    of_start r i ps true e (inr k) = absurd k
    of_start r i ps false e k = absurd k

    of_level : (r : EnabledRule) → IsRule g r.name r → r.parameters ≡ [] → (b : Bool) → has_levels r ≡ b →
        Among (cond b (map (λ l. Nonterminal.closed (Closed.call r.name Closeds.none (Some l))) (levels r))
        (Nonterminal.closed (Closed.call r.name Closeds.none None) ∷ [])) x → IsRoot g x
    of_level r i ps true e k =
        let w = among_map (λ l. Nonterminal.closed (Closed.call r.name Closeds.none (Some l))) (levels r) x k in
        inr (r, Some w.0, i, ps, w.1, sym w.2)
    of_level r i ps false e (inl k) = inr (r, None, i, ps, e, sym k)
    of_level r i ps false e (inr k) = absurd k

    either : (r : EnabledRule) → IsRule g r.name r → r.parameters ≡ [] → Among (start_of r) x ⊎ Among (at_levels r) x →
        IsRoot g x
    either r i ps (inl k) = of_start r i ps r.public refl k
    either r i ps (inr k) = of_level r i ps (has_levels r) refl k

    go : (r : EnabledRule) → Among g.rules r → (b : Bool) → (is_single (rules_named g r.name) && has_none r.parameters) ≡ b →
        Among (cond b (start_of r ++ at_levels r) []) x → IsRoot g x
    go r i true e k =
        let w = and_parts (is_single (rules_named g r.name)) (has_none r.parameters) e in
        either r (alone r (rules_named g r.name) w.0 (there r i)) (has-none r.parameters w.1)
        (among_parts (start_of r) (at_levels r) x k)
    go r i false e k = absurd k

-- the nonterminals of an expansion

abbrev nonterminals_of_symbol : GrammarSymbol Nonterminal → List Nonterminal
nonterminals_of_symbol (GrammarSymbol.terminal t) = []
nonterminals_of_symbol (GrammarSymbol.nonterminal x) = x ∷ []

abbrev nonterminals_of_side : Origin × RightSide → List Nonterminal
nonterminals_of_side p = flat_map nonterminals_of_symbol p.1

-- those on the right sides of a nonterminal
abbrev pub next_of : EnabledGrammar → Nonterminal → List Nonterminal
next_of g x = flat_map nonterminals_of_side (productions_of g x)

-- those that so many steps lead to
abbrev pub reached_in : EnabledGrammar → ℕ → List Nonterminal
reached_in g zero = roots g
reached_in g (suc n) = reached_in g n ++ flat_map (next_of g) (reached_in g n)

symbol-in : (p : GrammarSymbol Nonterminal) (x : Nonterminal) → Among (nonterminals_of_symbol p) x → p ≡ GrammarSymbol.nonterminal x
symbol-in (GrammarSymbol.terminal t) x i = absurd i
symbol-in (GrammarSymbol.nonterminal y) x (inl e) = ap GrammarSymbol.nonterminal e
symbol-in (GrammarSymbol.nonterminal y) x (inr i) = absurd i

-- each of them is in the expansion
pub reached-in : (g : EnabledGrammar) (n : ℕ) (x : Nonterminal) → Among (reached_in g n) x → InExpansion g x
reached-in g zero x i = (zero, is_root g x i)
reached-in g (suc n) x i =
    go (among_parts (reached_in g n) (flat_map (next_of g) (reached_in g n)) x i) (λ y j. reached-in g n y j)
  where
    go : Among (reached_in g n) x ⊎ Among (flat_map (next_of g) (reached_in g n)) x →
        ((y : Nonterminal) → Among (reached_in g n) y → InExpansion g y) → InExpansion g x
    go (inl j) before = before x j
    go (inr j) before =
        let y = among_flat_map (next_of g) (reached_in g n) x j in
        let p = among_flat_map nonterminals_of_side (productions_of g y.0) x y.2 in
        let s = among_flat_map nonterminals_of_symbol p.0.1 x p.2 in
        let b = before y.0 y.1 in (
          suc b.0,
          (
            y.0,
            p.0.0,
            p.0.1,
            b.1,
            is_production g y.0 p.0.0 p.0.1 p.1,
            subst (Among p.0.1) (symbol-in s.0 x s.2) s.1,
          ),
        )

-- whether the list has the roots, and with each nonterminal those on its right sides
abbrev pub is_all : EnabledGrammar → List Nonterminal → Bool
is_all g xs = list_all (has_nonterminal xs) (roots g) && list_all (has_nonterminal xs) (flat_map (next_of g) xs)

-- such a list has all nonterminals of the expansion
pub all-of : (g : EnabledGrammar) (xs : List Nonterminal) → is_all g xs ≡ true → (x : Nonterminal) → InExpansion g x → Among xs x
all-of g xs h x i = go i.0 x i.1
  where
    w : (list_all (has_nonterminal xs) (roots g) ≡ true) × (list_all (has_nonterminal xs) (flat_map (next_of g) xs) ≡ true)
    w = and_parts (list_all (has_nonterminal xs) (roots g)) (list_all (has_nonterminal xs) (flat_map (next_of g) xs)) h

    go : (n : ℕ) (x : Nonterminal) → IsReachedIn g n x → Among xs x
    go zero x r = has_nonterminal-among xs x (all-each (has_nonterminal xs) (roots g) w.0 x (root-listed g x r))
    go (suc n) x (y, o, side, r, m, j) =
        has_nonterminal-among xs x (all-each (has_nonterminal xs) (flat_map (next_of g) xs) w.1 x
        (flat_map_among (next_of g) xs y x (go n y r)
        (flat_map_among nonterminals_of_side (productions_of g y) (o, side) x (listed g y o side m)
        (flat_map_among nonterminals_of_symbol side (GrammarSymbol.nonterminal x) x j (inl refl)))))

-- calls

abbrev calls_of_side : Origin × RightSide → List Closed
calls_of_side p = flat_map calls_in_grammar_symbol p.1

-- the calls that occur in a rule or an instance
abbrev pub calls_from : EnabledGrammar → Closed → List Closed
calls_from g y = flat_map calls_of_side (productions_of g (Nonterminal.closed y))

abbrev closed_of : Nonterminal → List Closed
closed_of (Nonterminal.start n) = []
closed_of (Nonterminal.closed x) = x ∷ []

-- those that a chain of so many calls leads to
abbrev pub calls_at : EnabledGrammar → ℕ → List Closed
calls_at g zero = []
calls_at g (suc zero) = flat_map (calls_from g) (flat_map closed_of (roots g))
calls_at g (suc (suc k)) = flat_map (calls_from g) (calls_at g (suc k))

occurs-listed : (g : EnabledGrammar) (y x : Closed) → CallOccursIn g y x → Among (calls_from g y) x
occurs-listed g y x o =
    flat_map_among calls_of_side (productions_of g (Nonterminal.closed y)) (o.origin, o.side) x
    (listed g (Nonterminal.closed y) o.origin o.side o.produced)
    (flat_map_among calls_in_grammar_symbol o.side o.symbol x o.in_side o.call_is)

listed-occurs : (g : EnabledGrammar) (y x : Closed) → Among (calls_from g y) x → CallOccursIn g y x
listed-occurs g y x i =
    let p = among_flat_map calls_of_side (productions_of g (Nonterminal.closed y)) x i in
    let s = among_flat_map calls_in_grammar_symbol p.0.1 x p.2 in
    record {
      origin = p.0.0;
      side = p.0.1;
      produced = is_production g (Nonterminal.closed y) p.0.0 p.0.1 p.1;
      symbol = s.0;
      in_side = s.1;
      call_is = s.2;
    }

-- each call with a chain of that length is listed
pub chain-listed : (g : EnabledGrammar) (k : ℕ) (x : Closed) → HasCallChain g k x → Among (calls_at g k) x
chain-listed g zero x c = absurd c
chain-listed g (suc zero) x (y, r, o) =
    flat_map_among (calls_from g) (flat_map closed_of (roots g)) y x
    (flat_map_among closed_of (roots g) (Nonterminal.closed y) y (root-listed g (Nonterminal.closed y) r) (inl refl))
    (occurs-listed g y x o)
chain-listed g (suc (suc k)) x (y, c, o) =
    flat_map_among (calls_from g) (calls_at g (suc k)) y x (chain-listed g (suc k) y c) (occurs-listed g y x o)

closed-of : (z : Nonterminal) (y : Closed) → Among (closed_of z) y → z ≡ Nonterminal.closed y
closed-of (Nonterminal.start n) y i = absurd i
closed-of (Nonterminal.closed x) y (inl e) = ap Nonterminal.closed e
closed-of (Nonterminal.closed x) y (inr i) = absurd i

-- what is listed has such a chain
pub listed-chain : (g : EnabledGrammar) (k : ℕ) (x : Closed) → Among (calls_at g k) x → HasCallChain g k x
listed-chain g zero x i = absurd i
listed-chain g (suc zero) x i =
    let y = among_flat_map (calls_from g) (flat_map closed_of (roots g)) x i in
    let z = among_flat_map closed_of (roots g) y.0 y.1 in
    (y.0, is_root g (Nonterminal.closed y.0) (subst (Among (roots g)) (closed-of z.0 y.0 z.2) z.1), listed-occurs g y.0 x y.2)
listed-chain g (suc (suc k)) x i =
    let y = among_flat_map (calls_from g) (calls_at g (suc k)) x i in
    (y.0, listed-chain g (suc k) y.0 y.1, listed-occurs g y.0 x y.2)

-- whether no chain of at most that length leads to the call
abbrev pub has_no_chain : EnabledGrammar → ℕ → Closed → Bool
has_no_chain g zero x = true
has_no_chain g (suc k) x = not (has_closed (calls_at g (suc k)) x) && has_no_chain g k x

not-true : (b : Bool) → not b ≡ true → b ≡ false
not-true true h = cc
not-true false h = refl

no-chain : (g : EnabledGrammar) (limit : ℕ) (x : Closed) → has_no_chain g limit x ≡ true → (k : ℕ) → k ≤ limit →
    HasCallChain g k x → ⊥
no-chain g zero x h zero le c = c
no-chain g zero x h (suc k) le c = let impossible : ⊥ = omega (arith, le) in impossible
no-chain g (suc limit) x h k le c =
    let w = and_parts (not (has_closed (calls_at g (suc limit)) x)) (has_no_chain g limit x) h in
    go (below_or_last k limit le) w.0 (λ l. no-chain g limit x w.1 k l c)
  where
    go : (k ≤ limit) ⊎ (k ≡ suc limit) → not (has_closed (calls_at g (suc limit)) x) ≡ true → (k ≤ limit → ⊥) → ⊥
    go (inl l) e later = later l
    go (inr e) f later =
        not-has_closed (calls_at g (suc limit)) x (not-true (has_closed (calls_at g (suc limit)) x) f)
        (chain-listed g (suc limit) x (subst (λ n. HasCallChain g n x) e c))

a-chain : (g : EnabledGrammar) (limit : ℕ) (x : Closed) → has_no_chain g limit x ≡ false →
    (k : ℕ) × (k ≤ limit) × HasCallChain g k x
a-chain g zero x h = cc
a-chain g (suc limit) x h = go (has_closed (calls_at g (suc limit)) x) refl h (λ e. a-chain g limit x e)
  where
    go : (b : Bool) → has_closed (calls_at g (suc limit)) x ≡ b → (not b && has_no_chain g limit x) ≡ false →
        (has_no_chain g limit x ≡ false → (k : ℕ) × (k ≤ limit) × HasCallChain g k x) →
        (k : ℕ) × (k ≤ suc limit) × HasCallChain g k x
    go true e f later =
        (suc limit, omega arith, listed-chain g (suc limit) x (has_closed-among (calls_at g (suc limit)) x e))
    go false e f later = let w = later f in (w.0, omega (arith, w.1), w.2)

-- a call that a chain leads to, and none of at most the limit's length
pub is_too_deep : (g : EnabledGrammar) (limit k : ℕ) (x : Closed) → has_closed (calls_at g k) x ≡ true →
    has_no_chain g limit x ≡ true → IsTooDeep g limit x
is_too_deep g limit k x h e = record {
  steps = k;
  chain = listed-chain g k x (has_closed-among (calls_at g k) x h);
  none_short = λ j le c. no-chain g limit x e j le c;
}

-- whether each call one past the limit has a shorter chain too
abbrev pub none_left : EnabledGrammar → ℕ → Bool
none_left g limit = list_all (λ x. not (has_no_chain g limit x)) (calls_at g (suc limit))

-- then none is too deep
pub is_not_too_deep : (g : EnabledGrammar) (limit : ℕ) → none_left g limit ≡ true → (x : Closed) → IsTooDeep g limit x → ⊥
is_not_too_deep g limit h x t = let s = shorter t.steps x t.chain in t.none_short s.0 s.1 s.2
  where
    Short : Closed → Type 0
    Short y = (k : ℕ) × (k ≤ limit) × HasCallChain g k y

    one_past : (k : ℕ) (y : Closed) → (k ≤ limit) ⊎ (k ≡ suc limit) → HasCallChain g k y → Short y
    one_past k y (inl le) c = (k, le, c)
    one_past k y (inr e) c =
        a-chain g limit y (not-true (has_no_chain g limit y)
        (all-each (λ z. not (has_no_chain g limit z)) (calls_at g (suc limit)) h y
        (chain-listed g (suc limit) y (subst (λ n. HasCallChain g n y) e c))))

    last : (k : ℕ) (y : Closed) → k ≤ suc limit → HasCallChain g k y → Short y
    last k y le c = one_past k y (below_or_last k limit le) c

    shorter : (k : ℕ) (y : Closed) → HasCallChain g k y → Short y
    shorter zero y c = absurd c
    shorter (suc zero) y c = last (suc zero) y (omega arith) c
    shorter (suc (suc k)) y (z, c, o) =
        let w = shorter (suc k) z c in last (suc w.0) y (omega (arith, w.1)) (longer_chain g w.0 z y w.2 o)
