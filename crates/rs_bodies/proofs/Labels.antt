-- The labels that the reader has are those of the tokens that it took.
use Rattle.std.proofs.Common.{◌≡◌, ℕ, List, [], ◌∷◌, ◌++◌, length, codes, Bool, true, false, nat_le, nat_lt, Option, Some, None, Result, Ok, Err, IfOk, refl, sym, ap, ◌∙◌, append-nil, append_assoc}
use Rattle.std.proofs.Common.{cond}
use Rattle.rs_model.specs.Data.{Names_data}
use Rattle.rs_model.specs.declared.graph.Label.{Label}
use Rattle.rs_model.specs.declared.values.Sort.{Sort}
use Rattle.std.specs.Str.{bytes_eq}
use Rattle.rs_text.specs.declared.faults.TextFault.{TextFault}
use Rattle.rs_text.specs.declared.faults.TextKind.TheVariants as kind
use Rattle.rs_text.specs.declared.faults.Wanted.TheVariants as wanted
use Rattle.rs_bodies.specs.declared.reading.Frame.{Frame}
use Rattle.rs_bodies.specs.declared.reading.Link.{Link}
use Rattle.rs_bodies.specs.declared.reading.Mode.{Mode}
use Rattle.rs_bodies.specs.declared.reading.Mode.TheVariants as mode
use Rattle.rs_bodies.specs.declared.dialects.Dialect.TheVariants.{Acts}
use Rattle.rs_text.specs.declared.faults.Wanted.{Wanted}
use Rattle.rs_text.specs.Lexemes.{Lexeme}
use Rattle.rs_text.specs.Names.{place_of, names_with, nearest_binding}
use Rattle.rs_text.specs.Seen.{sort_named, word_text}
use Rattle.rs_text.specs.Signs.{Sign, rec_word, end_word, plain, bang, question, colon, dot, comma, open_brace, close_brace, open_paren, close_paren, broken}
use Rattle.rs_text.proofs.Leading.{LandsOr}
use Rattle.rs_text.proofs.MessageLaws.{labelled_lands}
use Rattle.rs_text.proofs.Naming.{grown_append}
use Rattle.rs_text.specs.Messages.{MessageFed, feed_label_number, feed_sort_word, feed_label}
use Rattle.rs_text.specs.declared.messages.MessagePlace.TheVariants as place
use Rattle.rs_bodies.specs.Data.{Reader_data}
use Rattle.rs_bodies.specs.Faults.{opens_arm, label_there, labels_among}
use Rattle.rs_bodies.specs.Feeding.{Fed, start_of_part, in_mode, reader_behind_link, feed_at, feed_machine, role_by, feed_head_role, feed_word, feed_body, feed_bound_name, feed_next, in_message}
use Rattle.rs_bodies.specs.Feeding.{feeding, feed_arms}
use Rattle.rs_bodies.proofs.FaultPlaces.{wanted_by}
use Rattle.rs_text.proofs.Keeping.{if_ok}
use Rattle.rs_text.specs.Readings.{feed_sign}

-- the reader is at a label
abbrev pub at_arm : Mode → Bool
at_arm (mode.InMessage act place.Label) = true
at_arm (mode.AtArms act) = true
at_arm _ = false

-- the mode is one of protocols alone
abbrev pub is_of_talks : Mode → Bool
is_of_talks mode.Roles = true
is_of_talks mode.FirstRole = true
is_of_talks mode.FirstComma = true
is_of_talks mode.FurtherRole = true
is_of_talks mode.Line = true
is_of_talks (mode.Receiver from p) = true
is_of_talks _ = false

-- a token leads from r to a reader with its label, which is at a label where one may stand behind it
abbrev pub Takes : Sign → Reader_data → Reader_data → Type 0
Takes t r d = (d.labels ≡ names_with r.labels (label_there (at_arm r.mode) t)) × (at_arm d.mode ≡ opens_arm t) × (is_of_talks d.mode ≡ false) × (d.roles ≡ r.roles)

abbrev TakesAt : Mode → Sign → Reader_data → Reader_data → Type 0
TakesAt m t r d = (d.labels ≡ names_with r.labels (label_there (at_arm m) t)) × (at_arm d.mode ≡ opens_arm t) × (is_of_talks d.mode ≡ false) × (d.roles ≡ r.roles)

take_if : (c : Bool) (m : Mode) (t : Sign) (r : Reader_data) (e : TextFault) (x : Fed) → IfOk x (TakesAt m t r) → IfOk (cond c (Err e) x) (TakesAt m t r)
take_if true m t r e x h = tt
take_if false m t r e x h = h

take_unless : (c : Bool) (m : Mode) (t : Sign) (r : Reader_data) (e : TextFault) (x : Fed) → IfOk x (TakesAt m t r) → IfOk (cond c x (Err e)) (TakesAt m t r)
take_unless true m t r e x h = h
take_unless false m t r e x h = tt

take_message : (act : ℕ) (x : Result MessageFed TextFault) (r : Reader_data) (Q : Reader_data → Type 0) → LandsOr (λ k. Unit {0}) x (λ m. IfOk (in_message act (Ok m) r) Q)
    → IfOk (in_message act x r) Q
take_message act (Ok m) r Q h = h
take_message act (Err e) r Q h = tt

take_labelled : (act : ℕ) (word : List ℕ) (at : ℕ) (r : Reader_data)
    → IfOk (in_message act (feed_label_number (place_of word r.labels) word at r.labels) r)
    (λ d. (d.labels ≡ names_with r.labels (word ∷ [])) × (at_arm d.mode ≡ false) × (is_of_talks d.mode ≡ false) × (d.roles ≡ r.roles))
take_labelled act word at r =
    let Q : Reader_data → Type 0 = λ d. (d.labels ≡ names_with r.labels (word ∷ [])) × (at_arm d.mode ≡ false) × (is_of_talks d.mode ≡ false) × (d.roles ≡ r.roles) in
    take_message act (feed_label_number (place_of word r.labels) word at r.labels) r Q
    (labelled_lands (λ k. Unit {0}) (λ m. IfOk (in_message act (Ok m) r) Q) (place_of word r.labels) word at r.labels refl (λ full. tt) (λ room k e. (refl, refl, refl, refl)))

take_label : (act : ℕ) (w : Wanted) (t : Sign) (at : ℕ) (r : Reader_data) → IfOk (in_message act (feed_label w (word_text t) at r.labels) r) (TakesAt (mode.InMessage act place.Label) t r)
take_label act w rec_word at r = take_labelled act (codes "rec") at r
take_label act w end_word at r = take_labelled act (codes "end") at r
take_label act w (plain x) at r = take_labelled act x at r
take_label act w _ at r = tt

take_arms : (act : ℕ) (t : Sign) (at : ℕ) (r : Reader_data) → IfOk (feed_arms Acts act t at r) (TakesAt (mode.AtArms act) t r)
take_arms act open_brace at r = take_if (nat_le 200 r.depth) (mode.AtArms act) open_brace r _ _ (refl, refl, refl, refl)
take_arms act rec_word at r = take_label act wanted.LabelOrBrace rec_word at r
take_arms act end_word at r = take_label act wanted.LabelOrBrace end_word at r
take_arms act (plain x) at r = take_label act wanted.LabelOrBrace (plain x) at r
take_arms act _ at r = tt

take_first : (t : Sign) (at : ℕ) (r : Reader_data) → IfOk (feed_machine t at r) (TakesAt mode.Machine t r)
take_first (plain w) at r = take_unless (bytes_eq w (codes "machine")) mode.Machine (plain w) r _ _ (refl, refl, refl, refl)
take_first _ at r = tt

take_role : (found : Option ℕ) (w : List ℕ) (at : ℕ) (r : Reader_data) → IfOk (role_by found at r) (TakesAt mode.AtRole (plain w) r)
take_role None w at r = tt
take_role (Some k) w at r = (refl, refl, refl, refl)

take_met : (found : Option ℕ) (w : List ℕ) (from : Link) (at : ℕ) (r : Reader_data) → IfOk (feed_head_role Acts found from at r) (TakesAt (mode.Body from) (plain w) r)
take_met None w from at r = tt
take_met (Some k) w from at r = take_if (nat_le 256 (length r.drafts)) (mode.Body from) (plain w) r _ _ (refl, refl, refl, refl)

take_named : (found : Option ℕ) (w : List ℕ) (from : Link) (at : ℕ) (r : Reader_data) → IfOk (feed_bound_name found from at r) (TakesAt (mode.Body from) (plain w) r)
take_named None w from at r = tt
take_named (Some k) w from at r =
    take_unless (nat_lt k (length r.drafts)) (mode.Body from) (plain w) r (record { kind = kind.Unguarded; at = at }) (in_mode mode.Next (reader_behind_link from (Some k) r)) (refl, refl, refl, refl)

take_word : (from : Link) (w : List ℕ) (s : Sign) (at next : ℕ) (r : Reader_data) → IfOk (feed_word Acts from w s at next r) (TakesAt (mode.Body from) (plain w) r)
take_word from w bang at next r = take_met (place_of w r.roles) w from at r
take_word from w question at next r = take_met (place_of w r.roles) w from at r
take_word from w (broken k) at next r = tt
take_word from w _ at next r = take_named (nearest_binding w r.bound) w from at r

take_body : (from : Link) (t : Sign) (at : ℕ) (next : Lexeme) (r : Reader_data) → IfOk (feed_body Acts from t at next r) (TakesAt (mode.Body from) t r)
take_body from rec_word at next r = take_if (nat_le 200 r.depth) (mode.Body from) rec_word r _ _ (refl, refl, refl, refl)
take_body from end_word at next r = (refl, refl, refl, refl)
take_body from (plain w) at next r = take_word from w next.sign at next.from r
take_body from _ at next r = tt

take_next : (fs : List Frame) (t : Sign) (at : ℕ) (r : Reader_data) → IfOk (feed_next fs t at r) (TakesAt mode.Next t r)
take_next [] t at r = tt
take_next (f ∷ fs) comma at r = (refl, refl, refl, refl)
take_next (f ∷ fs) close_brace at r = (refl, refl, refl, refl)
take_next (f ∷ fs) _ at r = tt

take_sorted : (found : Option Sort) (w : List ℕ) (act : ℕ) (l : Label) (at : ℕ) (r : Reader_data)
    → IfOk (in_message act (feed_sort_word found l at r.labels) r) (TakesAt (mode.InMessage act (place.Sort l)) (plain w) r)
take_sorted None w act l at r = tt
take_sorted (Some s) w act l at r = (refl, refl, refl, refl)

take_at : (m : Mode) (t : Sign) (at : ℕ) (next : Lexeme) (r : Reader_data) → is_of_talks m ≡ false → IfOk (feed_at Acts m t at next r) (TakesAt m t r)
take_at mode.Roles t at next r o = cc
take_at mode.FirstRole t at next r o = cc
take_at mode.FirstComma t at next r o = cc
take_at mode.FurtherRole t at next r o = cc
take_at mode.Line t at next r o = cc
take_at (mode.Receiver from p) t at next r o = cc
take_at mode.Machine t at next r o = take_first t at r
take_at mode.AtRole (plain w) at next r o = take_role (place_of w r.roles) w at r
take_at mode.AtRole _ at next r o = tt
take_at mode.AtColon colon at next r o = (refl, refl, refl, refl)
take_at mode.AtColon _ at next r o = tt
take_at (mode.Body from) t at next r o = take_body from t at next r
take_at (mode.RecName from) (plain w) at next r o = (refl, refl, refl, refl)
take_at (mode.RecName from) _ at next r o = tt
take_at (mode.RecDot from) dot at next r o = (refl, refl, refl, refl)
take_at (mode.RecDot from) _ at next r o = tt
take_at (mode.AtTurn from p) bang at next r o = take_if (nat_le 256 (length r.drafts)) (mode.AtTurn from p) bang r _ _ (refl, refl, refl, refl)
take_at (mode.AtTurn from p) question at next r o = take_if (nat_le 256 (length r.drafts)) (mode.AtTurn from p) question r _ _ (refl, refl, refl, refl)
take_at (mode.AtTurn from p) _ at next r o = tt
take_at (mode.AtArms act) t at next r o = take_arms act t at r
take_at (mode.InMessage act place.Label) t at next r o = take_label act wanted.Label t at r
take_at (mode.InMessage act (place.Paren l)) open_paren at next r o = (refl, refl, refl, refl)
take_at (mode.InMessage act (place.Paren l)) _ at next r o = tt
take_at (mode.InMessage act (place.Sort l)) close_paren at next r o = (refl, refl, refl, refl)
take_at (mode.InMessage act (place.Sort l)) (plain w) at next r o = take_sorted (sort_named w) w act l at r
take_at (mode.InMessage act (place.Sort l)) _ at next r o = tt
take_at (mode.InMessage act (place.Close l s)) close_paren at next r o = (refl, refl, refl, refl)
take_at (mode.InMessage act (place.Close l s)) _ at next r o = tt
take_at (mode.ArmDot act l s) dot at next r o = (refl, refl, refl, refl)
take_at (mode.ArmDot act l s) _ at next r o = tt
take_at mode.Next t at next r o = take_next r.frames t at r

pub take_sign : (t : Sign) (at : ℕ) (next : Lexeme) (r : Reader_data) → is_of_talks r.mode ≡ false → IfOk (feed_sign (feeding Acts) t at next r) (Takes t r)
take_sign (broken k) at next r o = tt
take_sign t at next r o = take_at r.mode t at next r o

-- ---- along the tokens

-- whether a label may stand behind these tokens
abbrev opened_by : Bool → List Sign → Bool
opened_by here [] = here
opened_by here (t ∷ ts) = opened_by (opens_arm t) ts

opened_on : (xs : List Sign) (here : Bool) (t : Sign) → opened_by here (xs ++ t ∷ []) ≡ opens_arm t
opened_on [] here t = refl
opened_on (x ∷ xs) here t = opened_on xs (opens_arm x) t

labels_on : (xs : List Sign) (here : Bool) (t : Sign) → labels_among here (xs ++ t ∷ []) ≡ labels_among here xs ++ label_there (opened_by here xs) t
labels_on [] here t = append-nil (label_there here t)
labels_on (x ∷ xs) here t =
    ap (λ z. label_there here x ++ z) (labels_on xs (opens_arm x) t) ∙ sym (append_assoc (label_there here x) (labels_among (opens_arm x) xs) (label_there (opened_by (opens_arm x) xs) t))

-- the reader has the labels of these tokens
pub record Follows (old : Names_data) (xs : List Sign) (r : Reader_data) : Type 0 where
  pub labels : r.labels ≡ names_with old.labels (labels_among false xs)
  pub mode : at_arm r.mode ≡ opened_by false xs
  pub line : is_of_talks r.mode ≡ false
  pub roles : r.roles ≡ old.roles

pub follows_first : (old : Names_data) → Follows old [] (start_of_part Acts old)
follows_first old = record { labels = refl; mode = refl; line = refl; roles = refl }

more_labels : (old : Names_data) (xs : List Sign) (r : Reader_data) (t : Sign) → Follows old xs r
    → names_with r.labels (label_there (at_arm r.mode) t) ≡ names_with old.labels (labels_among false (xs ++ t ∷ []))
more_labels old xs r t k = ap (λ z. names_with z (label_there (at_arm r.mode) t)) k.labels ∙ ap (λ z. names_with (names_with old.labels (labels_among false xs)) (label_there z t)) k.mode
    ∙ sym (grown_append (labels_among false xs) (label_there (opened_by false xs) t) old.labels) ∙ ap (λ z. names_with old.labels z) (sym (labels_on xs false t))

pub follows_on : (old : Names_data) (xs : List Sign) (t : Sign) (at : ℕ) (n : Lexeme) (r d : Reader_data) → Follows old xs r → feed_sign (feeding Acts) t at n r ≡ Ok d → Follows old (xs ++ t ∷ []) d
follows_on old xs t at n r d k e =
    let h = if_ok (feed_sign (feeding Acts) t at n r) d (Takes t r) e (take_sign t at n r k.line) in
    record { labels = h.0 ∙ more_labels old xs r t k; mode = h.1 ∙ sym (opened_on xs false t); line = h.2; roles = h.3 ∙ k.roles }

no_arm : (m : Mode) (fs : List Frame) → wanted_by Acts m fs ≡ wanted.Body → at_arm m ≡ false
no_arm (mode.InMessage act place.Label) fs h = cc
no_arm (mode.AtArms act) fs h = cc
no_arm _ fs h = refl

-- a word at the start of a body is no label
pub follows_word : (old : Names_data) (xs : List Sign) (t : Sign) (r : Reader_data) → Follows old xs r → wanted_by Acts r.mode r.frames ≡ wanted.Body
    → r.labels ≡ names_with old.labels (labels_among false (xs ++ t ∷ []))
follows_word old xs t r k h = ap (λ z. names_with r.labels (label_there z t)) (sym (no_arm r.mode r.frames h)) ∙ more_labels old xs r t k
