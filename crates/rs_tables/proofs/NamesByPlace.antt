-- Names by their places.
use Rattle.std.proofs.Common.{◌≡◌, ℕ, ◌<◌, List, [], length, get_or, Bool, true, Some, ap, ◌∙◌}
use Rattle.std.proofs.lemmas.Option.{slice_get-get_or, get_or_from_slice_get}
use Rattle.std.specs.List.{All, AllPairs}
use Rattle.std.specs.Prelude.{◌≢◌}
use Rattle.rs_text.specs.Names.{is_among, place_of}
use Rattle.rs_text.specs.NamePlaces.{StandsFirst, name_at, text_or_none}
use Rattle.rs_text.proofs.Naming.{place_law, among}

name_is : (names : List (List ℕ)) (k : ℕ) → k < length names → name_at names k ≡ get_or names k []
name_is names k h = ap text_or_none (slice_get-get_or names k [] h)

pub place_at : (names : List (List ℕ)) (k : ℕ) → AllPairs (λ x y. x ≢ y) names → k < length names → place_of (name_at names k) names ≡ Some k
place_at names k differ h =
    let first : StandsFirst (get_or names k []) names k = record {
      present = slice_get-get_or names k [] h;
      first = λ j lt e. differ j k [] lt h (get_or_from_slice_get names j (get_or names k []) [] e);
    } in
    ap (λ z. place_of z names) (name_is names k h) ∙ (place_law (get_or names k []) names k).1 first

pub word_at : (test : List ℕ → Bool) (names : List (List ℕ)) (k : ℕ) → All (λ x. test x ≡ true) names → k < length names → test (name_at names k) ≡ true
word_at test names k words h = ap test (name_is names k h) ∙ words k [] h

pub there : (names : List (List ℕ)) (k : ℕ) → AllPairs (λ x y. x ≢ y) names → k < length names → is_among (name_at names k) names ≡ true
there names k differ h = among names (name_at names k) 0 k (place_at names k differ h)
