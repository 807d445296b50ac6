-- An automaton along a text, a character at a time. For the walks along a text.
use Rattle.std.proofs.Common.{◌≡◌, ℕ, ◌+◌, ◌<◌, List, [], ◌∷◌, ◌++◌, length, Option, Some, None}
use Rattle.std.proofs.Common.{true, false, is_some, sym, ap, ◌∙◌, refl, subst, arith, length-append}
use Rattle.std.specs.Prelude.{slice_get, option_map, encode_utf8}
use Rattle.std.specs.Str.{chars, IsUtf8}
use Rattle.std.proofs.lemmas.List.{nil_from_length, append_cancel_right}
use Rattle.std.proofs.lemmas.Option.{slice_get_past}
use Rattle.std.proofs.lemmas.Str.{chars-nil, chars_past_char}
use Rattle.lalrpop_lexer_nfa.proofs.TextLemmas.{IsRead, read_start, read_char}
use Rattle.lalrpop_lexer.specs.declared.kind.NfaIndex.{NfaIndex}
use Rattle.lalrpop_lexer.specs.declared.walk.Walk.{Walk}
use Rattle.lalrpop_lexer.specs.Simulation.{StateView, next_state_view, better_answer, simulate, answer_of}
use Rattle.lalrpop_lexer.specs.Answer.{IsAnswerFront}
use Rattle.lalrpop_lexer.specs.Walks.{IsDeadEnd, IsTextWalk}

walked_none : (nodes : List StateView) (v : List ℕ) (n : ℕ) (best : Option (ℕ × ℕ)) → simulate nodes v None n best ≡ best
walked_none nodes [] n best = refl
walked_none nodes (c ∷ v) n best = refl

-- an automaton of no states finds nothing
pub walk_nothing : (nodes : List StateView) (text : List ℕ) → length nodes ≡ 0 → answer_of nodes text ≡ None
walk_nothing nodes text none =
    ap (λ (s : Option StateView). simulate nodes text s 0 None) (slice_get_past nodes 0 (omega (arith, none)))
    ∙ walked_none nodes text 0 None

-- from the node on the text leads to nothing that accepts
abbrev pub IsBarren : List StateView → List ℕ → StateView → Type 0
IsBarren nodes text node = (n : ℕ) (best : Option (ℕ × ℕ)) → simulate nodes (chars text) (Some node) n best ≡ best

-- a dead end by its node
pub barren_at : (nodes : List StateView) (text : List ℕ) (state : ℕ) (node : StateView) → slice_get nodes state ≡ Some node
    → IsDeadEnd nodes state text → IsBarren nodes text node
barren_at nodes text state node at end = λ n best.
    ap (λ (s : Option StateView). simulate nodes (chars text) s n best) (sym at) ∙ end n best

-- and back
pub dead_at : (nodes : List StateView) (text : List ℕ) (state : ℕ) (node : StateView) → slice_get nodes state ≡ Some node
    → IsBarren nodes text node → IsDeadEnd nodes state text
dead_at nodes text state node at end = λ n best.
    ap (λ (s : Option StateView). simulate nodes (chars text) s n best) at ∙ end n best

-- at the end of the text nothing follows
pub barren_end : (nodes : List StateView) (text : List ℕ) (node : StateView) → length text ≡ 0 → IsBarren nodes text node
barren_end nodes text node over = λ n best.
    ap (λ (v : List ℕ). simulate nodes v (Some node) n best) (ap chars (nil_from_length text over) ∙ chars-nil)

module _ (nodes : List StateView) (whole rest : List ℕ) (c : ℕ) (node : StateView) (utf8 : IsUtf8 whole)
    (is : whole ≡ encode_utf8 c ++ rest) where
  -- one character further
  stepped : (next : Option StateView) → next_state_view nodes node c ≡ next → (n : ℕ) (best : Option (ℕ × ℕ))
      → simulate nodes (chars whole) (Some node) n best ≡ simulate nodes (chars rest) next (n + 1) (better_answer next (n + 1) best)
  stepped next e n best =
      ap (λ (v : List ℕ). simulate nodes v (Some node) n best) (chars_past_char whole rest c utf8 is)
      ∙ ap (λ (s : Option StateView). simulate nodes (chars rest) s (n + 1) (better_answer s (n + 1) best)) e

  -- one character further, to a state that accepts nothing
  quiet : (next : StateView) → next_state_view nodes node c ≡ Some next → next.0 ≡ None → (n : ℕ) (best : Option (ℕ × ℕ))
      → simulate nodes (chars whole) (Some node) n best ≡ simulate nodes (chars rest) (Some next) (n + 1) best
  quiet next e none n best =
      stepped (Some next) e n best
      ∙ ap (λ (o : Option ℕ). simulate nodes (chars rest) (Some next) (n + 1) (better_answer (Some (o, next.1)) (n + 1) best)) none

  -- where no edge reads the character, nothing follows
  pub barren_dead : next_state_view nodes node c ≡ None → IsBarren nodes whole node
  barren_dead none = λ n best. stepped None none n best ∙ walked_none nodes (chars rest) (n + 1) best

  -- nothing follows where nothing follows one character further
  pub barren_step : (next : StateView) → next_state_view nodes node c ≡ Some next → next.0 ≡ None → IsBarren nodes rest next
      → IsBarren nodes whole node
  barren_step next e none end = λ n best. quiet next e none n best ∙ end (n + 1) best

module _ (nodes : List StateView) (text : List ℕ) where
  -- whatever was found before stays the best answer, once so many characters led to the state
  abbrev IsKept : Option StateView → ℕ → Type 0
  IsKept s n = (best : Option (ℕ × ℕ)) → simulate nodes text s n best ≡ best

  -- the same, where the state may be the best answer itself
  abbrev IsKeptFrom : Option StateView → ℕ → Type 0
  IsKeptFrom s n = (best : Option (ℕ × ℕ)) → simulate nodes text s n (better_answer s n best) ≡ best

  -- a state from where nothing is found accepts nothing
  kept_from : ((s : Option StateView) (n : ℕ) → IsKept s n → (m : ℕ) → IsKept s m) → (s : Option StateView) (n : ℕ)
      → IsKeptFrom s n → (m : ℕ) → IsKeptFrom s m
  kept_from same None n h m = λ best. walked_none nodes text m best
  kept_from same (Some (None, es)) n h m = same (Some (None, es)) n h m
  kept_from same (Some (Some e, es)) n h m = let off : false ≡ true = ap is_some (sym (h None) ∙ h (Some (0, 0))) in absurd cc

  -- and so it is kept, too
  kept_of_from : ((s : Option StateView) (n : ℕ) → IsKept s n → (m : ℕ) → IsKept s m) → (node : StateView) (n : ℕ)
      → IsKeptFrom (Some node) n → (m : ℕ) → IsKept (Some node) m
  kept_of_from same (None, es) n h m = same (Some (None, es)) n h m
  kept_of_from same (Some e, es) n h m = let off : false ≡ true = ap is_some (sym (h None) ∙ h (Some (0, 0))) in absurd cc

-- it does not matter how many characters led to the state
kept_same : (nodes : List StateView) (text : List ℕ) (s : Option StateView) (n : ℕ) → IsKept nodes text s n → (m : ℕ)
    → IsKept nodes text s m
kept_same nodes [] None n h m = λ best. refl
kept_same nodes [] (Some s) n h m = λ best. refl
kept_same nodes (c ∷ text) None n h m = λ best. refl
kept_same nodes (c ∷ text) (Some s) n h m =
    kept_from nodes text (kept_same nodes text) (next_state_view nodes s c) (n + 1) h (m + 1)

-- a dead end leads to dead ends
pub dead_step : (nodes : List StateView) (whole rest : List ℕ) (c state next : ℕ) (node nextnode : StateView) → IsUtf8 whole
    → whole ≡ encode_utf8 c ++ rest → slice_get nodes state ≡ Some node → slice_get nodes next ≡ Some nextnode
    → next_state_view nodes node c ≡ Some nextnode → IsDeadEnd nodes state whole → IsDeadEnd nodes next rest
dead_step nodes whole rest c state next node nextnode utf8 is at at_next leads end =
    dead_at nodes rest next nextnode at_next
    (kept_of_from nodes (chars rest) (kept_same nodes (chars rest)) nextnode (0 + 1)
    (λ best. sym (stepped nodes whole rest c node utf8 is (Some nextnode) leads 0 best) ∙ barren_at nodes whole state node at end 0 best))

-- what an option has that is some
some_of : (o : Option NfaIndex) → is_some o ≡ true → (p : NfaIndex) × (o ≡ Some p)
some_of None e = absurd cc
some_of (Some p) e = (p, refl)

-- a state that accepts no pattern
pub accepts_none : (o : Option NfaIndex) (accepts : Option ℕ) → is_some o ≡ false → option_map (λ (p : NfaIndex). p.0) o ≡ accepts
    → accepts ≡ None
accepts_none None accepts e same = sym same
accepts_none (Some p) accepts e same = absurd cc

-- what was found is the best answer
abbrev pub answer_by : Option NfaIndex → List ℕ → Option (ℕ × ℕ)
answer_by pattern front = option_map (λ (p : NfaIndex). (p.0, length (chars front))) pattern

-- the walk has come to the node with this text left, and what it found so far is the best answer
pub record IsWalking (nodes : List StateView) (text left : List ℕ) (node : StateView) (walk : Walk) : Type 0 where
  pub word : List ℕ
  pub read : IsRead text left word
  pub front : List ℕ
  pub is : text ≡ front ++ walk.rest.now
  pub same : answer_of nodes (chars text) ≡ simulate nodes (chars left) (Some node) (length word) (answer_by walk.pattern front)
  pub inside : walk.state < length nodes
  pub last : IsBarren nodes left node → IsDeadEnd nodes walk.state walk.rest.now

-- before the first character nothing is found
pub walk_start : (nodes : List StateView) (text : List ℕ) (node : StateView) (walk : Walk) → IsUtf8 text
    → slice_get nodes 0 ≡ Some node → 0 < length nodes → walk.pattern ≡ None → walk.state ≡ 0 → walk.rest.now ≡ text
    → IsWalking nodes text text node walk
walk_start nodes text node walk u first some none zeroth all = record {
  word = [];
  read = read_start text u;
  front = [];
  is = sym all;
  same =
      ap (λ (s : Option StateView). simulate nodes (chars text) s 0 None) first
      ∙ ap (λ (p : Option NfaIndex). simulate nodes (chars text) (Some node) 0 (answer_by p [])) (sym none);
  inside = omega (arith, zeroth, some);
  last = λ end.
      let P : ℕ → Type 0 = λ s. IsDeadEnd nodes s walk.rest.now in
      let Q : List ℕ → Type 0 = λ t. IsDeadEnd nodes 0 t in
      subst P (sym zeroth) (subst Q (sym all) (dead_at nodes text 0 node first end));
}

-- a walk that comes to where nothing follows is over
pub walk_over : (nodes : List StateView) (text left : List ℕ) (node : StateView) (walk : Walk)
    → IsWalking nodes text left node walk → IsBarren nodes left node → IsTextWalk nodes text walk
walk_over nodes text left node walk h end = record {
  front = h.front;
  is = h.is;
  answer = h.same ∙ end (length h.word) (answer_by walk.pattern h.front);
  inside = h.inside;
  last = h.last end;
}

module _ (nodes : List StateView) (text whole rest : List ℕ) (c : ℕ) (node next : StateView) (walk : Walk)
    (is : whole ≡ encode_utf8 c ++ rest) (leads : next_state_view nodes node c ≡ Some next)
    (h : IsWalking nodes text whole node walk) where
  further : IsRead text rest (h.word ++ c ∷ [])
  further = read_char text whole rest h.word c is h.read

  utf8 : IsUtf8 whole
  utf8 = h.read.rest_utf8

  counted : length h.word + 1 ≡ length (h.word ++ c ∷ [])
  counted = omega (arith, length-append h.word (c ∷ []))

  -- a character that leads to a state which accepts nothing
  pub walk_on : next.0 ≡ None → IsWalking nodes text rest next walk
  walk_on none = record {
    word = h.word ++ c ∷ [];
    read = further;
    front = h.front;
    is = h.is;
    same =
        h.same ∙ quiet nodes whole rest c node utf8 is next leads none (length h.word) (answer_by walk.pattern h.front)
        ∙ ap (λ (n : ℕ). simulate nodes (chars rest) (Some next) n (answer_by walk.pattern h.front)) counted;
    inside = h.inside;
    last = λ end. h.last (barren_step nodes whole rest c node utf8 is next leads none end);
  }

  -- a character that leads to a state which accepts
  pub walk_found : (new : Walk) → option_map (λ (p : NfaIndex). p.0) new.pattern ≡ next.0 → is_some new.pattern ≡ true
      → slice_get nodes new.state ≡ Some next → new.state < length nodes → new.rest.now ≡ rest
      → IsWalking nodes text rest next new
  walk_found new accepts found at inside_is here = record {
    word = h.word ++ c ∷ [];
    read = further;
    front = further.front;
    is = further.is ∙ ap (λ (t : List ℕ). further.front ++ t) (sym here);
    same =
        h.same
        ∙ stepped nodes whole rest c node utf8 is (Some next) leads (length h.word) (answer_by walk.pattern h.front)
        ∙ ap (λ (o : Option ℕ). simulate nodes (chars rest) (Some next) (length h.word + 1)
        (better_answer (Some (o, next.1)) (length h.word + 1) (answer_by walk.pattern h.front)))
        (sym accepts ∙ ap (option_map (λ (q : NfaIndex). q.0)) some.1)
        ∙ ap (λ (n : ℕ). simulate nodes (chars rest) (Some next) n (Some (some.0.0, n))) counted
        ∙ ap (λ (n : ℕ). simulate nodes (chars rest) (Some next) (length (h.word ++ c ∷ [])) (Some (some.0.0, n)))
        (sym (ap length further.says))
        ∙ ap (λ (o : Option NfaIndex). simulate nodes (chars rest) (Some next) (length (h.word ++ c ∷ [])) (answer_by o further.front))
        (sym some.1);
    inside = inside_is;
    last = λ end.
        let Q : List ℕ → Type 0 = λ t. IsDeadEnd nodes new.state t in
        subst Q (sym here) (dead_at nodes rest new.state next at end);
  }
    where
      some : (p : NfaIndex) × (new.pattern ≡ Some p)
      some = some_of new.pattern found

-- a match that a walk found is the answer
pub walk_answer : (nodes : List StateView) (text : List ℕ) (walk : Walk) (p : NfaIndex) (word : List ℕ) → IsTextWalk nodes text walk
    → walk.pattern ≡ Some p → text ≡ word ++ walk.rest.now → IsAnswerFront nodes text p.0 word
walk_answer nodes text walk p word h some cut =
    let same : h.front ≡ word = append_cancel_right h.front word walk.rest.now (sym h.is ∙ cut) in
    record {
      rest = walk.rest.now;
      is = cut;
      answer = h.answer ∙ ap (λ (o : Option NfaIndex). answer_by o h.front) some
          ∙ ap (λ (f : List ℕ). Some (p.0, length (chars f))) same;
    }
