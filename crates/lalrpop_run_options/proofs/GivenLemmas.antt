-- What a text that was given for an argument passed, for the numbers and the word of the task.
use Rattle.std.proofs.Common.{◌≡◌, ◌∙◌, ◌<◌, ap, arith, inl, inr, sym, subst, refl, ℕ, Bool, true, false, List, []}
use Rattle.std.proofs.Common.{◌∷◌, length, Some, None, Option}
use Rattle.std.specs.Prelude.{option_map, slice_get}
use Rattle.std.specs.Borrow.{Bor}
use Rattle.std.specs.List.{All, slice_index_or}
use Rattle.std.specs.Str.{bytes_eq}
use Rattle.std.proofs.lemmas.List.Elements.{All-get_or}
use Rattle.std.proofs.lemmas.Slice.Eq.{bytes_eq-Decides}
use Rattle.clap.proofs.CallerLemmas.{entry_by_id, same_rules_by_id}
use Rattle.clap.specs.Built.{IsAuto, IsParsedFrom, IsPlain, SameRules}
use Rattle.clap.specs.Facts.{Entry, EntryPasses, HasReading, PassesArg, args_of, groups_of, parser_of, parser_of_value}
use Rattle.clap.specs.Matches.{first_value, found_of, matched_of, one_text}
use Rattle.clap.specs.Values.{Accepts, read_as, reading_of}
use Rattle.clap.specs.declared.builder.arg.Arg.{Arg}
use Rattle.clap.specs.declared.builder.command.Command.{Command}
use Rattle.clap.specs.declared.builder.command.Command.TheViews.{out-Command}
use Rattle.clap.specs.declared.builder.value_parser.Reading.{Reading}
use Rattle.clap.specs.declared.builder.value_parser.ValueParser.{ValueParser}
use Rattle.clap.specs.declared.parser.matches.ArgMatches.{ArgMatches}
use Rattle.clap.specs.declared.parser.matches.MatchedArg.{MatchedArg}

-- the argument of `old` at index k, which alone has its id and is no help or version
pub record IsOwn (old : Command) (k : ℕ) (a : Arg) : Type 0 where
  pub lt : k < length (args_of old)
  pub at : slice_index_or (args_of old) k a ≡ a
  pub unique : (j : ℕ) (e : Arg) → j < length (args_of old)
      → bytes_eq (slice_index_or (args_of old) j e).id.now a.id.now ≡ true → j ≡ k
  pub named : a.id.now ≡ [] → ⊥
  pub own : IsAuto a → ⊥

-- an argument of the built command with the id of an own one has its rules
rules_of_id : (old : Command) (m : ArgMatches) (p : IsParsedFrom old m) (k : ℕ) (a : Arg) → IsOwn old k a
    → (j : ℕ) (x : Arg) → j < length (args_of p.built) → slice_index_or (args_of p.built) j x ≡ x
    → bytes_eq x.id.now a.id.now ≡ true
    → SameRules a x
rules_of_id old m p k a o j x high at same =
    let unique : (i : ℕ) (e : Arg) → i < length (args_of old)
    → bytes_eq (slice_index_or (args_of old) i e).id.now (slice_index_or (args_of old) k a).id.now ≡ true → i ≡ k =
    λ i e lt h. o.unique i e lt (rw o.at at h) in
    let s = same_rules_by_id old m p k a o.lt unique (λ auto. o.own (rw o.at at auto)) j x high at (rw o.at same) in
    subst (λ (w : Arg). SameRules w x) o.at s

-- a text that passed an argument with this id passed the parser
accepted : (old : Command) (m : ArgMatches) (p : IsParsedFrom old m) (k : ℕ) (a : Arg) → IsOwn old k a
    → (q : ValueParser) → a.value_parser ≡ Some q → (t : List ℕ) → PassesArg p.built a.id.now t → Accepts a.ignore_case q t
accepted old m p k a o q parser t any =
    let s = rules_of_id old m p k a o any.0 any.1 any.2 any.3 any.4.0 in
    let is_q : parser_of any.1 ≡ q = ap parser_of_value (s.parser q parser) in
    let as_q : Accepts any.1.ignore_case q t = subst (λ (w : ValueParser). Accepts any.1.ignore_case w t) is_q any.4.1 in
    subst (λ (b : Bool). Accepts b q t) s.ignore_case as_q

-- and is read as the parser says
read_by : (old : Command) (m : ArgMatches) (p : IsParsedFrom old m) (k : ℕ) (a : Arg) → IsOwn old k a
    → (q : ValueParser) → a.value_parser ≡ Some q → (r : Reading) → HasReading p.built a.id.now r → r ≡ reading_of q
read_by old m p k a o q parser r any =
    let s = rules_of_id old m p k a o any.0 any.1 any.2 any.3 any.4.0 in
    let is_q : parser_of any.1 ≡ q = ap parser_of_value (s.parser q parser) in
    sym any.4.1 ∙ ap reading_of is_q

-- the entry of an id is no group's in a command without groups
no_group : (c : Command) (e : Entry) → groups_of c ≡ [] → (e.0.now ≡ [] → ⊥) → EntryPasses c e → e.1.is_group ≡ true
    → ⊥
no_group c e no_groups named pass g = elim (pass.3 g) [
  | inl empty ↦ named empty
  | inr lots ↦
      let bad : 0 < 0 = rw no_groups at lots in
      absurd (omega arith)
]

-- so its values passed its argument
values_passed : (c : Command) (e : Entry) → (e.1.is_group ≡ true → ⊥) → EntryPasses c e
    → All (λ v. PassesArg c e.0.now v.now) e.1.vals.items
values_passed c e alone pass = elim pass.0 [ inl g ↦ absurd (alone g) | inr vals ↦ vals ]

-- and it is read as its argument says
entry_read : (c : Command) (e : Entry) → (e.1.is_group ≡ true → ⊥) → EntryPasses c e → HasReading c e.0.now e.1.reading
entry_read c e alone pass = elim pass.4 [ inl g ↦ absurd (alone g) | inr h ↦ h ]

first_holds : (P : List ℕ → Type 0) (vs : List (Bor (List ℕ))) (t : List ℕ) → All (λ v. P v.now) vs
    → option_map (λ s. s.now) (slice_get vs 0) ≡ Some t → P t
first_holds P [] t h e = cc
first_holds P (v ∷ vs) t h e =
    let same : v.now ≡ t = cc in
    subst P same (All-get_or (λ w. P w.now) (v ∷ vs) 0 v (omega arith) h)

-- what the entry of an id says of its first value
entry_passed : (c : Command) (id : List ℕ) (x : MatchedArg) (e : Entry) (t : List ℕ) → groups_of c ≡ [] → (id ≡ [] → ⊥)
    → e.1 ≡ x → e.0.now ≡ id → EntryPasses c e → option_map (λ s. s.now) (slice_get x.vals.items 0) ≡ Some t
    → PassesArg c id t × HasReading c id x.reading
entry_passed c id x e t no_groups named same_x key pass first =
    let alone = no_group c e no_groups (λ empty. named (sym key ∙ empty)) pass in
    let values = subst (λ (w : List ℕ). All (λ v. PassesArg c w v.now) e.1.vals.items) key (values_passed c e alone pass) in
    let reads = subst (λ (w : List ℕ). HasReading c w e.1.reading) key (entry_read c e alone pass) in (
      first_holds (PassesArg c id) x.vals.items t (subst (λ (y : MatchedArg). All (λ v. PassesArg c id v.now) y.vals.items) same_x values)
          first,
      subst (λ (y : MatchedArg). HasReading c id y.reading) same_x reads,
    )

text_read : (how : Reading) (o : Option (Bor (List ℕ))) (t : List ℕ) → option_map (λ s. s.now) o ≡ Some t
    → option_map (λ s. read_as how s.now) o ≡ Some (read_as how t)
text_read how None t e = cc
text_read how (Some s) t e = let same : s.now ≡ t = cc in ap (λ w. Some (read_as how w)) same

-- a text that was given for an own argument with a parser passed it, and is read as it says
pub given_passed : (old : Command) (m : ArgMatches) (p : IsParsedFrom old m) → IsPlain old → (out-Command old).has_globals ≡ false
    → (k : ℕ) (a : Arg) → IsOwn old k a → (q : ValueParser) → a.value_parser ≡ Some q
    → (t : List ℕ) → first_value (found_of m) a.id.now ≡ Some t
    → Accepts a.ignore_case q t × (one_text (found_of m) a.id.now ≡ Some (read_as (reading_of q) t))
given_passed old m p plain globals k a o q parser t given = go (matched_of (found_of m) a.id.now) refl
  where
    go : (x : Option MatchedArg) → matched_of (found_of m) a.id.now ≡ x
        → Accepts a.ignore_case q t × (one_text (found_of m) a.id.now ≡ Some (read_as (reading_of q) t))
    go None e =
        let bad : None ≡ Some t = rw e at given in
        cc
    go (Some x) e =
        let first : option_map (λ s. s.now) (slice_get x.vals.items 0) ≡ Some t = rw e at given in
        let parsed = p.parsed (p.from.globals ∙ globals) in
        let entry = entry_by_id (EntryPasses p.built) (found_of m).entries.items a.id.now x parsed.values e in
        let got = entry_passed p.built a.id.now x entry.0 t (p.from.plain plain).1 o.named entry.1
        ((bytes_eq-Decides entry.0.0.now a.id.now).0 entry.2) entry.3 first in
        let how = read_by old m p k a o q parser x.reading got.1 in
        let text : one_text (found_of m) a.id.now ≡ Some (read_as x.reading t) =
        rw e (text_read x.reading (slice_get x.vals.items 0) t first) in
        (accepted old m p k a o q parser t got.0, text ∙ ap (λ r. Some (read_as r t)) how)
