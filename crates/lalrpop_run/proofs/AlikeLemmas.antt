-- Two grammars whose productions correspond, under other names and actions: their trees, moves and forests correspond, and one is
-- LR(1) where the other is.
use Rattle.std.proofs.Common.{◌≡◌, ℕ, zero, suc, List, [], ◌∷◌, ◌++◌, refl, ap, sym, ◌∙◌, subst, Some, None, ◌-◌, ◌+◌, cond, Bool}
use Rattle.std.proofs.Common.{true, false}
use Rattle.std.specs.Prelude.{leb, slice_get, ⊤}
use Rattle.lalrpop_grammar_symbols.specs.Symbols.{Text}
use Rattle.lalrpop_lr1_theory.specs.Productions.{Symbol, terminal, nonterminal, Production, Next}
use Rattle.lalrpop_lr1_theory.specs.Trees.{Forest, none, leaf, node, roots, yield, nodes, AreOver, IsTreeOf, Move, shift, reduce}
use Rattle.lalrpop_lr1_theory.specs.Trees.{forest, moves}
use Rattle.lalrpop_lr1_theory.specs.Answers.{IsLr1, IsValidMove}

-- symbols that correspond
abbrev pub AlikeSymbol : (Text → Text → Type 0) → Symbol → Symbol → Type 0
AlikeSymbol N (nonterminal a) (nonterminal b) = N a b
AlikeSymbol N (nonterminal a) (terminal u) = ⊥
AlikeSymbol N (terminal t) (nonterminal b) = ⊥
AlikeSymbol N (terminal t) (terminal u) = t ≡ u

abbrev pub AlikeSides : (Text → Text → Type 0) → List Symbol → List Symbol → Type 0
AlikeSides N [] [] = ⊤
AlikeSides N [] (y ∷ h) = ⊥
AlikeSides N (x ∷ g) [] = ⊥
AlikeSides N (x ∷ g) (y ∷ h) = AlikeSymbol N x y × AlikeSides N g h

-- trees that correspond
abbrev pub Alike : (Production → Production → Type 0) → Forest → Forest → Type 0
Alike R none none = ⊤
Alike R none (leaf u us) = ⊥
Alike R none (node q ds us) = ⊥
Alike R (leaf t ts) none = ⊥
Alike R (leaf t ts) (leaf u us) = (t ≡ u) × Alike R ts us
Alike R (leaf t ts) (node q ds us) = ⊥
Alike R (node p cs ts) none = ⊥
Alike R (node p cs ts) (leaf u us) = ⊥
Alike R (node p cs ts) (node q ds us) = R p q × Alike R cs ds × Alike R ts us

abbrev pub AlikeMove : (Production → Production → Type 0) → Move → Move → Type 0
AlikeMove R (shift t) (shift u) = t ≡ u
AlikeMove R (shift t) (reduce q) = ⊥
AlikeMove R (reduce p) (shift u) = ⊥
AlikeMove R (reduce p) (reduce q) = R p q

abbrev pub AlikeMoves : (Production → Production → Type 0) → List Move → List Move → Type 0
AlikeMoves R [] [] = ⊤
AlikeMoves R [] (n ∷ ns) = ⊥
AlikeMoves R (m ∷ ms) [] = ⊥
AlikeMoves R (m ∷ ms) (n ∷ ns) = AlikeMove R m n × AlikeMoves R ms ns

-- Names correspond one to one, and so do productions; each of the one grammar has one of the other.
pub record Correspond (G H : Production → Type 0) (N : Text → Text → Type 0) (R : Production → Production → Type 0) : Type 0 where
  pub name_one : (a b c : Text) → N a b → N a c → b ≡ c
  pub name_back : (a b c : Text) → N a c → N b c → a ≡ b
  pub one : (p q r : Production) → R p q → R p r → q ≡ r
  pub back : (p q r : Production) → R p r → R q r → p ≡ q
  pub left : (p q : Production) → R p q → N p.left q.left
  pub right : (p q : Production) → R p q → AlikeSides N p.right q.right
  pub over : (p q : Production) → R p q → H q
  pub over_back : (p q : Production) → R p q → G p
  pub there : (p : Production) → G p → (q : Production) × R p q
  pub there_back : (q : Production) → H q → (p : Production) × R p q

flip_symbol : (N : Text → Text → Type 0) (x y : Symbol) → AlikeSymbol N x y → AlikeSymbol (λ a b. N b a) y x
flip_symbol N (nonterminal a) (nonterminal b) h = h
flip_symbol N (nonterminal a) (terminal u) h = absurd h
flip_symbol N (terminal t) (nonterminal b) h = absurd h
flip_symbol N (terminal t) (terminal u) h = sym h

pub flip_sides : (N : Text → Text → Type 0) (g h : List Symbol) → AlikeSides N g h → AlikeSides (λ a b. N b a) h g
flip_sides N [] [] a = tt
flip_sides N [] (y ∷ h) a = absurd a
flip_sides N (x ∷ g) [] a = absurd a
flip_sides N (x ∷ g) (y ∷ h) a = (flip_symbol N x y a.0, flip_sides N g h a.1)

-- the other way round
pub converse : (G H : Production → Type 0) (N : Text → Text → Type 0) (R : Production → Production → Type 0) →
    Correspond G H N R → Correspond H G (λ a b. N b a) (λ p q. R q p)
converse G H N R c = record {
  name_one = λ a b d h k. c.name_back b d a h k;
  name_back = λ a b d h k. c.name_one d a b h k;
  one = λ p q r h k. c.back q r p h k;
  back = λ p q r h k. c.one r p q h k;
  left = λ p q h. c.left q p h;
  right = λ p q h. flip_sides N q.right p.right (c.right q p h);
  over = λ p q h. c.over_back q p h;
  over_back = λ p q h. c.over q p h;
  there = c.there_back;
  there_back = c.there;
}

-- Trees that correspond to these.
pub record HasAlike (R : Production → Production → Type 0) (ts : Forest) : Type 0 where
  pub forest : Forest
  pub alike : Alike R ts forest

moves_joined : (R : Production → Production → Type 0) (ms ns ks ls : List Move) → AlikeMoves R ms ns → AlikeMoves R ks ls →
    AlikeMoves R (ms ++ ks) (ns ++ ls)
moves_joined R [] [] ks ls h k = k
moves_joined R [] (n ∷ ns) ks ls h k = absurd h
moves_joined R (m ∷ ms) [] ks ls h k = absurd h
moves_joined R (m ∷ ms) (n ∷ ns) ks ls h k = (h.0, moves_joined R ms ns ks ls h.1 k)

pub record HasMove (R : Production → Production → Type 0) (ns : List Move) (k : ℕ) (m : Move) : Type 0 where
  pub move : Move
  pub at : slice_get ns k ≡ Some move
  pub alike : AlikeMove R m move

pub move_at : (R : Production → Production → Type 0) (ms ns : List Move) (k : ℕ) (m : Move) → AlikeMoves R ms ns →
    slice_get ms k ≡ Some m → HasMove R ns k m
move_at R [] [] k m h e = let wrong : None ≡ Some m = e in cc
move_at R [] (n ∷ ns) k m h e = absurd h
move_at R (v ∷ ms) [] k m h e = absurd h
move_at R (v ∷ ms) (n ∷ ns) zero m h e =
    let same : v ≡ m = cc in
    record { move = n; at = refl; alike = subst (λ z. AlikeMove R z n) same h.0 }
move_at R (v ∷ ms) (n ∷ ns) (suc k) m h e =
    let r = move_at R ms ns k m h.1 e in
    record { move = r.move; at = r.at; alike = r.alike }

module _ (G H : Production → Type 0) (N : Text → Text → Type 0) (R : Production → Production → Type 0)
    (c : Correspond G H N R) where
  symbol_one : (x y z : Symbol) → AlikeSymbol N x y → AlikeSymbol N x z → y ≡ z
  symbol_one (nonterminal a) (nonterminal b) (nonterminal d) h k = ap nonterminal (c.name_one a b d h k)
  symbol_one (nonterminal a) (nonterminal b) (terminal u) h k = absurd k
  symbol_one (nonterminal a) (terminal t) z h k = absurd h
  symbol_one (terminal t) (nonterminal b) z h k = absurd h
  symbol_one (terminal t) (terminal u) (nonterminal d) h k = absurd k
  symbol_one (terminal t) (terminal u) (terminal v) h k = ap terminal (sym h ∙ k)

  pub side_one : (g h k : List Symbol) → AlikeSides N g h → AlikeSides N g k → h ≡ k
  side_one [] [] [] a b = refl
  side_one [] [] (z ∷ k) a b = absurd b
  side_one [] (y ∷ h) k a b = absurd a
  side_one (x ∷ g) [] k a b = absurd a
  side_one (x ∷ g) (y ∷ h) [] a b = absurd b
  side_one (x ∷ g) (y ∷ h) (z ∷ k) a b =
      ap (λ w. w ∷ h) (symbol_one x y z a.0 b.0) ∙ ap (λ w. z ∷ w) (side_one g h k a.1 b.1)

  pub made : (ts : Forest) → AreOver G ts → HasAlike R ts
  made none h = record { forest = none; alike = tt }
  made (leaf t ts) h =
      let m = made ts h in
      record { forest = leaf t m.forest; alike = (refl, m.alike) }
  made (node p cs ts) h =
      let q = c.there p h.0 in
      let k = made cs h.2 in
      let m = made ts h.3 in
      record { forest = node q.0 k.forest m.forest; alike = (q.1, k.alike, m.alike) }

  pub roots_alike : (ts us : Forest) → Alike R ts us → AlikeSides N (roots ts) (roots us)
  roots_alike none none h = tt
  roots_alike none (leaf u us) h = absurd h
  roots_alike none (node q ds us) h = absurd h
  roots_alike (leaf t ts) none h = absurd h
  roots_alike (leaf t ts) (leaf u us) h = (h.0, roots_alike ts us h.1)
  roots_alike (leaf t ts) (node q ds us) h = absurd h
  roots_alike (node p cs ts) none h = absurd h
  roots_alike (node p cs ts) (leaf u us) h = absurd h
  roots_alike (node p cs ts) (node q ds us) h = (c.left p q h.0, roots_alike ts us h.2)

  pub over_alike : (ts us : Forest) → AreOver G ts → Alike R ts us → AreOver H us
  over_alike none none h a = tt
  over_alike none (leaf u us) h a = absurd a
  over_alike none (node q ds us) h a = absurd a
  over_alike (leaf t ts) none h a = absurd a
  over_alike (leaf t ts) (leaf u us) h a = over_alike ts us h a.1
  over_alike (leaf t ts) (node q ds us) h a = absurd a
  over_alike (node p cs ts) none h a = absurd a
  over_alike (node p cs ts) (leaf u us) h a = absurd a
  over_alike (node p cs ts) (node q ds us) h a = (
    c.over p q a.0,
    side_one p.right (roots ds) q.right (subst (λ g. AlikeSides N g (roots ds)) h.1 (roots_alike cs ds a.1)) (c.right p q a.0),
    over_alike cs ds h.2 a.1,
    over_alike ts us h.3 a.2,
  )

  pub tree_alike : (s other : Text) (ts us : Forest) → N s other → IsTreeOf G s ts → Alike R ts us → IsTreeOf H other us
  tree_alike s other ts us n h a = (
    side_one (nonterminal s ∷ []) (roots us) (nonterminal other ∷ []) (subst (λ g. AlikeSides N g (roots us)) h.0 (roots_alike ts us a))
        (n, tt),
    over_alike ts us h.1 a,
  )

  pub yield_alike : (ts us : Forest) → Alike R ts us → yield ts ≡ yield us
  yield_alike none none h = refl
  yield_alike none (leaf u us) h = absurd h
  yield_alike none (node q ds us) h = absurd h
  yield_alike (leaf t ts) none h = absurd h
  yield_alike (leaf t ts) (leaf u us) h = ap (λ z. z ∷ yield ts) h.0 ∙ ap (λ z. u ∷ z) (yield_alike ts us h.1)
  yield_alike (leaf t ts) (node q ds us) h = absurd h
  yield_alike (node p cs ts) none h = absurd h
  yield_alike (node p cs ts) (leaf u us) h = absurd h
  yield_alike (node p cs ts) (node q ds us) h =
      ap (λ z. z ++ yield ts) (yield_alike cs ds h.1) ∙ ap (λ z. yield ds ++ z) (yield_alike ts us h.2)

  nodes_alike : (ts us : Forest) → Alike R ts us → nodes ts ≡ nodes us
  nodes_alike none none h = refl
  nodes_alike none (leaf u us) h = absurd h
  nodes_alike none (node q ds us) h = absurd h
  nodes_alike (leaf t ts) none h = absurd h
  nodes_alike (leaf t ts) (leaf u us) h = ap suc (nodes_alike ts us h.1)
  nodes_alike (leaf t ts) (node q ds us) h = absurd h
  nodes_alike (node p cs ts) none h = absurd h
  nodes_alike (node p cs ts) (leaf u us) h = absurd h
  nodes_alike (node p cs ts) (node q ds us) h =
      ap (λ z. suc (z + nodes ts)) (nodes_alike cs ds h.1) ∙ ap (λ z. suc (nodes ds + z)) (nodes_alike ts us h.2)

  pub forest_alike : (ts us : Forest) (k : ℕ) → Alike R ts us → Alike R (forest ts k) (forest us k)
  forest_alike none none k h = tt
  forest_alike none (leaf u us) k h = absurd h
  forest_alike none (node q ds us) k h = absurd h
  forest_alike (leaf t ts) none k h = absurd h
  forest_alike (leaf t ts) (leaf u us) zero h = tt
  forest_alike (leaf t ts) (leaf u us) (suc k) h = (h.0, forest_alike ts us k h.1)
  forest_alike (leaf t ts) (node q ds us) k h = absurd h
  forest_alike (node p cs ts) none k h = absurd h
  forest_alike (node p cs ts) (leaf u us) k h = absurd h
  forest_alike (node p cs ts) (node q ds us) k h =
      subst (λ n. Alike R (forest (node p cs ts) k) (cond (leb k n) (forest ds k) (node q ds (forest us (k - suc n)))))
      (nodes_alike cs ds h.1)
      (go (forest_alike cs ds k h.1) (forest_alike ts us (k - suc (nodes cs)) h.2) (leb k (nodes cs)))
    where
      go : Alike R (forest cs k) (forest ds k) → Alike R (forest ts (k - suc (nodes cs))) (forest us (k - suc (nodes cs))) →
          (b : Bool) → Alike R (cond b (forest cs k) (node p cs (forest ts (k - suc (nodes cs)))))
          (cond b (forest ds k) (node q ds (forest us (k - suc (nodes cs)))))
      go a b true = a
      go a b false = (h.0, h.1, b)

  pub moves_alike : (ts us : Forest) → Alike R ts us → AlikeMoves R (moves ts) (moves us)
  moves_alike none none h = tt
  moves_alike none (leaf u us) h = absurd h
  moves_alike none (node q ds us) h = absurd h
  moves_alike (leaf t ts) none h = absurd h
  moves_alike (leaf t ts) (leaf u us) h = (h.0, moves_alike ts us h.1)
  moves_alike (leaf t ts) (node q ds us) h = absurd h
  moves_alike (node p cs ts) none h = absurd h
  moves_alike (node p cs ts) (leaf u us) h = absurd h
  moves_alike (node p cs ts) (node q ds us) h =
      moves_joined R (moves cs) (moves ds) (reduce p ∷ moves ts) (reduce q ∷ moves us) (moves_alike cs ds h.1)
      (h.0, moves_alike ts us h.2)

  pub alike_one : (ts us vs : Forest) → Alike R ts us → Alike R ts vs → us ≡ vs
  alike_one none none none h k = refl
  alike_one none none (leaf v vs) h k = absurd k
  alike_one none none (node r es vs) h k = absurd k
  alike_one none (leaf u us) vs h k = absurd h
  alike_one none (node q ds us) vs h k = absurd h
  alike_one (leaf t ts) none vs h k = absurd h
  alike_one (leaf t ts) (leaf u us) none h k = absurd k
  alike_one (leaf t ts) (leaf u us) (leaf v vs) h k =
      ap (λ z. leaf z us) (sym h.0 ∙ k.0) ∙ ap (leaf v) (alike_one ts us vs h.1 k.1)
  alike_one (leaf t ts) (leaf u us) (node r es vs) h k = absurd k
  alike_one (leaf t ts) (node q ds us) vs h k = absurd h
  alike_one (node p cs ts) none vs h k = absurd h
  alike_one (node p cs ts) (leaf u us) vs h k = absurd h
  alike_one (node p cs ts) (node q ds us) none h k = absurd k
  alike_one (node p cs ts) (node q ds us) (leaf v vs) h k = absurd k
  alike_one (node p cs ts) (node q ds us) (node r es vs) h k =
      ap (λ z. node z ds us) (c.one p q r h.0 k.0) ∙ ap (λ z. node r z us) (alike_one cs ds es h.1 k.1)
      ∙ ap (node r es) (alike_one ts us vs h.2 k.2)

  pub move_back : (m n k : Move) → AlikeMove R m k → AlikeMove R n k → m ≡ n
  move_back (shift t) (shift u) (shift v) h k = ap shift (h ∙ sym k)
  move_back (shift t) (shift u) (reduce r) h k = absurd h
  move_back (shift t) (reduce q) (shift v) h k = absurd k
  move_back (shift t) (reduce q) (reduce r) h k = absurd h
  move_back (reduce p) (shift u) (shift v) h k = absurd h
  move_back (reduce p) (shift u) (reduce r) h k = absurd k
  move_back (reduce p) (reduce q) (shift v) h k = absurd h
  move_back (reduce p) (reduce q) (reduce r) h k = ap reduce (c.back p q r h k)

  -- a valid move of the one is one of the other
  pub record HasValidMove (other : Text) (f : Forest) (x : Next) (m : Move) : Type 0 where
    pub forest : Forest
    pub move : Move
    pub forests : Alike R f forest
    pub moves : AlikeMove R m move
    pub valid : IsValidMove H other forest x move

  pub valid_alike : (s other : Text) → N s other → (f : Forest) (x : Next) (m : Move) → IsValidMove G s f x m →
      HasValidMove other f x m
  valid_alike s other n f x m v =
      let t = made v.tree v.is_tree.1 in
      let there = move_at R (moves v.tree) (moves t.forest) v.count m (moves_alike v.tree t.forest t.alike) v.move_is in
      let shown : Alike R (forest v.tree v.count) (forest t.forest v.count) = forest_alike v.tree t.forest v.count t.alike in
      let forests : Alike R f (forest t.forest v.count) = subst (λ z. Alike R z (forest t.forest v.count)) v.forest_is shown in
      record {
        forest = forest t.forest v.count;
        move = there.move;
        forests = forests;
        moves = there.alike;
        valid = record {
          tree = t.forest;
          count = v.count;
          left = v.left;
          is_tree = tree_alike s other v.tree t.forest n v.is_tree t.alike;
          forest_is = refl;
          move_is = there.at;
          leaves = sym (yield_alike v.tree t.forest t.alike) ∙ v.leaves
              ∙ ap (λ z. z ++ v.left) (yield_alike f (forest t.forest v.count) forests);
          next = v.next;
        };
      }

  -- the one is LR(1) where the other is
  pub lr1_alike : (s other : Text) → N s other → IsLr1 H other → IsLr1 G s
  lr1_alike s other n h f x m k v w =
      let a = valid_alike s other n f x m v in
      let b = valid_alike s other n f x k w in
      let forests : a.forest ≡ b.forest = alike_one f a.forest b.forest a.forests b.forests in
      let same : a.move ≡ b.move =
      h b.forest x a.move b.move (subst (λ z. IsValidMove H other z x a.move) forests a.valid) b.valid in
      move_back m k b.move (subst (AlikeMove R m) same a.moves) b.moves
