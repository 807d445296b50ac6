-- Texts behind options, and what an id that was not given has, for the reading of a parse.
use Rattle.std.proofs.Common.{◌≡◌, ◌∙◌, ap, ap₂, List, ℕ, Option, Some, None, refl}
use Rattle.std.specs.Prelude.{option_map, unwrap_or, slice_get}
use Rattle.std.specs.Borrow.{Bor}
use Rattle.std.specs.Option.{option_or}
use Rattle.clap.specs.Matches.{first_value, matched_of, one_text}
use Rattle.clap.specs.Values.{read_as}
use Rattle.clap.specs.declared.builder.value_parser.Reading.{Reading}
use Rattle.clap.specs.declared.parser.matches.Found.{Found}
use Rattle.clap.specs.declared.parser.matches.MatchedArg.{MatchedArg}

-- the text behind an option or a usual one
pub unwrap_or_text : {X : Type 0} (o : Option (Bor X)) (usual : Bor X)
    → (unwrap_or o usual).now ≡ unwrap_or (option_map (λ s. s.now) o) usual.now
unwrap_or_text None usual = refl
unwrap_or_text (Some s) usual = refl

option_or-now : {X : Type 0} (a b : Option (Bor X))
    → option_map (λ s. s.now) (option_or a b) ≡ option_or (option_map (λ s. s.now) a) (option_map (λ s. s.now) b)
option_or-now None b = refl
option_or-now (Some s) b = refl

-- the text behind the first of two options
pub either_text : {X : Type 0} (r a b : Option (Bor X)) (x y : Option X) → r ≡ option_or a b → option_map (λ s. s.now) a ≡ x
    → option_map (λ s. s.now) b ≡ y → option_map (λ s. s.now) r ≡ option_or x y
either_text r a b x y is first second =
    ap (option_map (λ s. s.now)) is ∙ (option_or-now a b ∙ ap₂ option_or first second)

none_first : (how : Reading) (o : Option (Bor (List ℕ))) → option_map (λ s. s.now) o ≡ None
    → option_map (λ s. read_as how s.now) o ≡ None
none_first how None e = refl
none_first how (Some s) e = cc

-- without a first value there is no text to read
pub none_to_read : (f : Found) (id : List ℕ) → first_value f id ≡ None → one_text f id ≡ None
none_to_read f id = go (matched_of f id) refl
  where
    go : (o : Option MatchedArg) → matched_of f id ≡ o → first_value f id ≡ None → one_text f id ≡ None
    go None e h = rw e refl
    go (Some x) e h = rw e (none_first x.reading (slice_get x.vals.items 0) (rw e at h))
