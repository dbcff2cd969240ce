-- What a token makes of a message: where its fault stands, what its label is, and which labels are there behind it.
use Rattle.std.proofs.Common.{◌≡◌, ◌∙◌, ℕ, ◌≤◌, List, [], ◌∷◌, ◌++◌, append-nil, append_assoc, codes, length, Bool, true, false, ◌&&◌, ◌||◌, if◌then◌else◌, nat_le, nat_lt, Option, Some, None, Ok}
use Rattle.std.proofs.Common.{IfOk, IfErr, refl, sym, ap, subst}
use Rattle.std.proofs.lemmas.Slice.Eq.{bytes_eq-Decides}
use Rattle.std.specs.List.{list_all}
use Rattle.std.specs.Str.{bytes_eq}
use Rattle.rs_model.specs.Data.{Names_data}
use Rattle.rs_model.specs.declared.graph.Label.{Label}
use Rattle.rs_model.specs.declared.limits.TheConstants.{MOST_LABELS}
use Rattle.rs_model.specs.declared.values.Sort.{Sort}
use Rattle.rs_model.specs.declared.values.Sort.TheVariants as sort
use Rattle.rs_text.specs.declared.faults.TextKind.{TextKind}
use Rattle.rs_text.specs.declared.faults.TextKind.TheVariants as kind
use Rattle.rs_text.specs.declared.faults.Wanted.{Wanted}
use Rattle.rs_text.specs.declared.faults.Wanted.TheVariants as wanted
use Rattle.rs_text.specs.declared.messages.MessagePlace.{MessagePlace}
use Rattle.rs_text.specs.declared.messages.MessagePlace.TheVariants as place
use Rattle.rs_text.specs.Arms.{sort_text}
use Rattle.rs_text.specs.Lexemes.{Lexeme}
use Rattle.rs_text.specs.Messages.{MessageFed, goes_on, ends, Fed, label_of_number, feed_label_number, feed_label, feed_sort_word, feed_message}
use Rattle.rs_text.specs.Names.{place_of, names_with, is_among, differ}
use Rattle.rs_text.specs.Readings.{Automaton, feed_sign, fault}
use Rattle.rs_text.specs.Seen.{word_text, sort_named}
use Rattle.rs_text.specs.Signs.{Sign, rec_word, end_word, plain, open_paren, close_paren, broken, word_sign}
use Rattle.rs_text.specs.Sound.{IsSound}
use Rattle.rs_text.specs.Words.{is_word, is_role_word}
use Rattle.rs_text.proofs.Basics.{some_is, both}
use Rattle.rs_text.proofs.Judging.{IsNamed}
use Rattle.rs_text.proofs.Keeping.{Below}
use Rattle.rs_text.proofs.Leading.{LandsOr, full, fits_in}
use Rattle.rs_text.proofs.Naming.{among, not_among, place_of_new, grown_new, grown_old, new_differ, new_all, decides_sound}

-- ---- words

word_if : (a b : Bool) (l : List ℕ) → (a ≡ true → l ≡ codes "rec") → (b ≡ true → l ≡ codes "end") → word_text (if a then rec_word else if b then end_word else plain l) ≡ Some l
word_if true b l f g = ap Some (sym (f refl))
word_if false true l f g = ap Some (sym (g refl))
word_if false false l f g = refl

-- a word's sign has its text
pub label_seen : (l : List ℕ) → word_text (word_sign l) ≡ Some l
label_seen l = word_if (bytes_eq l (codes "rec")) (bytes_eq l (codes "end")) l (λ h. (bytes_eq-Decides l (codes "rec")).0 h) (λ h. (bytes_eq-Decides l (codes "end")).0 h)

-- and is fed as any other
pub word_fed : {R : Type 0} (a : Automaton R) (t : Sign) (l : List ℕ) (at : ℕ) (n : Lexeme) (r : R) → word_text t ≡ Some l → feed_sign a t at n r ≡ a.feed t at n r
word_fed a (broken k) l at n r h = cc
word_fed a t l at n r h = refl

-- a sort's word names it
pub sort_seen : (s : Sort) → sort_named (sort_text s) ≡ Some s
sort_seen sort.Unit = refl
sort_seen sort.Flag = refl
sort_seen sort.Natural = refl
sort_seen sort.Whole = refl
sort_seen sort.Octets = refl
sort_seen sort.Numbers = refl

word_named : (t : Sign) → IsNamed t → (w : List ℕ) → word_text t ≡ Some w → is_word w ≡ true
word_named rec_word n w h = subst (λ (z : List ℕ). is_word z ≡ true) (some_is (codes "rec") w h) refl
word_named end_word n w h = subst (λ (z : List ℕ). is_word z ≡ true) (some_is (codes "end") w h) refl
word_named (plain x) n w h = (both (is_word w) _ (n w (ap plain (some_is x w h)))).0
word_named _ n w h = absurd (cc h)

-- ---- faults

below_if : (n : ℕ) (c : Bool) (k : TextKind) (at : ℕ) (x : Fed) → at ≤ n → IfErr x (Below n) → IfErr (if c then fault k at else x) (Below n)
below_if n true k at x h g = h
below_if n false k at x h g = g

labelled_below : (n : ℕ) (o : Option ℕ) (w : List ℕ) (at : ℕ) (labels : List (List ℕ)) → at ≤ n → IfErr (feed_label_number o w at labels) (Below n)
labelled_below n (Some k) w at labels h = tt
labelled_below n None w at labels h = below_if n (nat_le MOST_LABELS (length labels)) kind.TooManyLabels at _ h tt

-- a fault stands at the token
pub label_below : (n : ℕ) (v : Wanted) (o : Option (List ℕ)) (at : ℕ) (labels : List (List ℕ)) → at ≤ n → IfErr (feed_label v o at labels) (Below n)
label_below n v None at labels h = h
label_below n v (Some w) at labels h = labelled_below n (place_of w labels) w at labels h

sorted_below : (n : ℕ) (o : Option Sort) (l : Label) (at : ℕ) (labels : List (List ℕ)) → at ≤ n → IfErr (feed_sort_word o l at labels) (Below n)
sorted_below n None l at labels h = h
sorted_below n (Some s) l at labels h = tt

pub message_below : (n : ℕ) (p : MessagePlace) (t : Sign) (at : ℕ) (labels : List (List ℕ)) → at ≤ n → IfErr (feed_message p t at labels) (Below n)
message_below n place.Label t at labels h = label_below n wanted.Label (word_text t) at labels h
message_below n (place.Paren l) open_paren at labels h = tt
message_below n (place.Paren l) _ at labels h = h
message_below n (place.Sort l) close_paren at labels h = tt
message_below n (place.Sort l) (plain w) at labels h = sorted_below n (sort_named w) l at labels h
message_below n (place.Sort l) _ at labels h = h
message_below n (place.Close l s) close_paren at labels h = tt
message_below n (place.Close l s) _ at labels h = h

-- ---- the label

-- the label is there, or there is room for it
abbrev pub has_room : List ℕ → List (List ℕ) → Bool
has_room l labels = is_among l labels || nat_lt (length labels) MOST_LABELS

room_if : (c : Bool) (E : TextKind → Type 0) (Q : MessageFed → Type 0) (at : ℕ) (m : MessageFed) → (c ≡ true → E kind.TooManyLabels) → (c ≡ false → Q m)
    → LandsOr E (if c then fault kind.TooManyLabels at else Ok m) Q
room_if true E Q at m f h = f refl
room_if false E Q at m f h = h refl

-- the label lands among the labels that were there with it, or there is no room
pub labelled_lands : (E : TextKind → Type 0) (Q : MessageFed → Type 0) (found : Option ℕ) (l : List ℕ) (at : ℕ) (labels : List (List ℕ)) → place_of l labels ≡ found
    → (has_room l labels ≡ false → E kind.TooManyLabels)
    → (has_room l labels ≡ true → (k : ℕ) → place_of l (names_with labels (l ∷ [])) ≡ Some k → Q (goes_on (names_with labels (l ∷ [])) (place.Paren (label_of_number k))))
    → LandsOr E (feed_label_number found l at labels) Q
labelled_lands E Q (Some k) l at labels e f h =
    let same : names_with labels (l ∷ []) ≡ labels = grown_old labels l k e in
    let room : has_room l labels ≡ true = ap (λ z. z || nat_lt (length labels) MOST_LABELS) (among labels l 0 k e) in
    subst (λ (z : List (List ℕ)). Q (goes_on z (place.Paren (label_of_number k)))) same (h room k (ap (λ z. place_of l z) same ∙ e))
labelled_lands E Q None l at labels e f h =
    let same : names_with labels (l ∷ []) ≡ labels ++ l ∷ [] = grown_new labels l e in
    let room : has_room l labels ≡ nat_lt (length labels) MOST_LABELS = ap (λ z. z || nat_lt (length labels) MOST_LABELS) (not_among labels l 0 e) in
    room_if (nat_le MOST_LABELS (length labels)) E Q at (goes_on (labels ++ l ∷ []) (place.Paren (label_of_number (length labels))))
    (λ c. f (room ∙ full MOST_LABELS (length labels) c))
    (λ c. subst (λ (z : List (List ℕ)). Q (goes_on z (place.Paren (label_of_number (length labels))))) same
    (h (room ∙ fits_in MOST_LABELS (length labels) c) (length labels) (ap (λ z. place_of l z) same ∙ place_of_new labels l e)))

-- ---- the labels that are there

-- labels that differ and are words, with further ones behind the old ones
pub record GoodLabels (old labels : List (List ℕ)) : Type 0 where
  pub later : List (List ℕ)
  pub labels_are : labels ≡ old ++ later
  pub labels_differ : differ labels ≡ true
  pub words : list_all is_word labels ≡ true

-- those of names that texts can have are such
pub labels_first : (names : Names_data) → IsSound names → GoodLabels names.labels names.labels
labels_first names s =
    let t = both (differ names.roles && list_all is_role_word names.roles) (differ names.labels && list_all is_word names.labels) ((decides_sound names).1 s) in
    let u = both (differ names.labels) (list_all is_word names.labels) t.1 in
    record { later = []; labels_are = sym (append-nil names.labels); labels_differ = u.0; words = u.1 }

-- the labels behind a token
abbrev pub GoodBehind : (old labels : List (List ℕ)) → MessageFed → Type 0
GoodBehind old labels (goes_on more p) = GoodLabels old more
GoodBehind old labels (ends l s) = GoodLabels old labels

new_good : (c : Bool) (old labels : List (List ℕ)) (w : List ℕ) (at : ℕ) (p : MessagePlace) → is_among w labels ≡ false → is_word w ≡ true → GoodLabels old labels
    → IfOk (if c then fault kind.TooManyLabels at else Ok (goes_on (labels ++ w ∷ []) p)) (GoodBehind old labels)
new_good true old labels w at p e k g = tt
new_good false old labels w at p e k g = record {
  later = g.later ++ w ∷ [];
  labels_are = ap (λ z. z ++ w ∷ []) g.labels_are ∙ append_assoc old g.later (w ∷ []);
  labels_differ = new_differ labels w e g.labels_differ;
  words = new_all is_word labels w e g.words k;
}

labelled_good : (old labels : List (List ℕ)) (o : Option ℕ) (w : List ℕ) (at : ℕ) → place_of w labels ≡ o → is_word w ≡ true → GoodLabels old labels
    → IfOk (feed_label_number o w at labels) (GoodBehind old labels)
labelled_good old labels (Some k) w at e f g = g
labelled_good old labels None w at e f g = new_good (nat_le MOST_LABELS (length labels)) old labels w at _ (not_among labels w 0 e) f g

named_good : (old labels : List (List ℕ)) (v : Wanted) (o : Option (List ℕ)) (at : ℕ) → ((w : List ℕ) → o ≡ Some w → is_word w ≡ true) → GoodLabels old labels
    → IfOk (feed_label v o at labels) (GoodBehind old labels)
named_good old labels v None at k g = tt
named_good old labels v (Some w) at k g = labelled_good old labels (place_of w labels) w at refl (k w refl) g

-- a token that is taken keeps the labels good
pub label_good : (old labels : List (List ℕ)) (v : Wanted) (t : Sign) (at : ℕ) → IsNamed t → GoodLabels old labels → IfOk (feed_label v (word_text t) at labels) (GoodBehind old labels)
label_good old labels v t at n g = named_good old labels v (word_text t) at (word_named t n) g

sorted_good : (old labels : List (List ℕ)) (o : Option Sort) (l : Label) (at : ℕ) → GoodLabels old labels → IfOk (feed_sort_word o l at labels) (GoodBehind old labels)
sorted_good old labels None l at g = tt
sorted_good old labels (Some s) l at g = g

pub message_good : (old labels : List (List ℕ)) (p : MessagePlace) (t : Sign) (at : ℕ) → IsNamed t → GoodLabels old labels → IfOk (feed_message p t at labels) (GoodBehind old labels)
message_good old labels place.Label t at n g = label_good old labels wanted.Label t at n g
message_good old labels (place.Paren l) open_paren at n g = g
message_good old labels (place.Paren l) _ at n g = tt
message_good old labels (place.Sort l) close_paren at n g = g
message_good old labels (place.Sort l) (plain w) at n g = sorted_good old labels (sort_named w) l at g
message_good old labels (place.Sort l) _ at n g = tt
message_good old labels (place.Close l s) close_paren at n g = g
message_good old labels (place.Close l s) _ at n g = tt
