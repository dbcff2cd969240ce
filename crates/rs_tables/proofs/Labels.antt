-- The labels that the reader has are those of the tokens that it took.
use Rattle.std.proofs.Common.{◌≡◌, ℕ, List, [], ◌∷◌, ◌++◌, length, codes, Bool, true, false, ◌==◌, ◌&&◌, nat_le, if◌then◌else◌, Option, Some, None, Result, Ok, Err, IfOk, refl, sym, ap, ◌∙◌, append-nil, append_assoc, subst}
use Rattle.rs_model.specs.Data.{Names_data}
use Rattle.rs_model.specs.declared.graph.Label.{Label}
use Rattle.rs_model.specs.declared.graph.Role.{Role}
use Rattle.rs_model.specs.declared.limits.TheConstants.{MOST_STATES}
use Rattle.rs_model.specs.declared.values.Sort.{Sort}
use Rattle.rs_bodies.specs.declared.dialects.Mark.{Mark}
use Rattle.rs_bodies.specs.Faults.{opens_arm, label_there, labels_among}
use Rattle.rs_text.specs.declared.faults.TextFault.{TextFault}
use Rattle.rs_text.specs.declared.faults.TextKind.TheVariants as kind
use Rattle.rs_text.specs.declared.faults.Wanted.{Wanted}
use Rattle.rs_text.specs.declared.faults.Wanted.TheVariants as wanted
use Rattle.rs_text.specs.declared.messages.MessagePlace.TheVariants as place
use Rattle.rs_text.specs.Lexemes.{Lexeme, signs_of}
use Rattle.rs_text.specs.Messages.{MessageFed, feed_label_number, feed_label, feed_sort_word}
use Rattle.rs_text.specs.Names.{place_of, names_with}
use Rattle.rs_text.specs.Readings.{Lead, expected, fault, feed_sign, next_lexeme_of}
use Rattle.rs_text.specs.Seen.{sort_named, word_text}
use Rattle.rs_text.specs.Signs.{Sign, rec_word, end_word, plain, number, bang, question, comma, open_brace, close_brace, open_paren, close_paren, broken}
use Rattle.rs_text.specs.TokenTests.{is_keyword}
use Rattle.rs_text.proofs.Keeping.{if_ok}
use Rattle.rs_text.proofs.Leading.{LandsOr}
use Rattle.rs_text.proofs.MessageLaws.{labelled_lands}
use Rattle.rs_text.proofs.Naming.{grown_append}
use Rattle.rs_tables.specs.Cuts.{row_wanted}
use Rattle.rs_tables.specs.Data.{Reader_data}
use Rattle.rs_tables.specs.Feeding.{Fed, start_of_table, in_mode, passes, feed_table_role, feed_number, feed_peer, in_message, feed_at, feeding, is_some_of}
use Rattle.rs_tables.specs.declared.reading.Mode.{Mode}
use Rattle.rs_tables.specs.declared.reading.Mode.TheVariants as mode

-- ---- one token

-- at a label a label may stand; where a number, a brace or the end of the table is wanted it doesn't matter; nowhere else may one
abbrev pub Opened : Mode → Bool → Type 0
Opened (mode.InMessage p m place.Label) here = here ≡ true
Opened mode.AtNumber here = Unit {0}
Opened (mode.BehindMark p m) here = Unit {0}
Opened _ here = here ≡ false

-- a token leads from r to a reader with its label
abbrev pub Takes : Bool → Sign → Reader_data → Reader_data → Type 0
Takes here t r d = (d.labels ≡ names_with r.labels (label_there here t)) × Opened d.mode (opens_arm t)

passed : (c : Bool) (w : Wanted) (m : Mode) (at : ℕ) (r : Reader_data) (Q : Reader_data → Type 0) → Q (record r { mode = m }) → IfOk (passes c w m at r) Q
passed true w m at r Q h = h
passed false w m at r Q h = tt

either : (c : Bool) (x y : Fed) (Q : Reader_data → Type 0) → IfOk x Q → IfOk y Q → IfOk (if c then x else y) Q
either true x y Q h k = h
either false x y Q h k = k

played : (o : Option ℕ) (at : ℕ) (r : Reader_data) (Q : Reader_data → Type 0) → ((k : ℕ) → Q (record r { role = record { 0 = k }; mode = mode.AtBrace })) → IfOk (feed_table_role o at r) Q
played None at r Q h = tt
played (Some k) at r Q h = h k

met : (o : Option ℕ) (at : ℕ) (r : Reader_data) (Q : Reader_data → Type 0) → ((k : ℕ) → Q (record r { mode = mode.BehindPeer (record { 0 = k }) })) → IfOk (feed_peer o at r) Q
met None at r Q h = tt
met (Some k) at r Q h = h k

counted : (n : ℕ) (at : ℕ) (r : Reader_data) (Q : Reader_data → Type 0) → Q (record r { mode = mode.BehindNumber }) → IfOk (feed_number (Some n) false at r) Q
counted n at r Q h =
    either (n == length r.states) (if nat_le MOST_STATES (length r.states) then fault kind.TooManyNodes at else in_mode mode.BehindNumber r) (expected (row_wanted r.states) at) Q
    (either (nat_le MOST_STATES (length r.states)) (fault kind.TooManyNodes at) (in_mode mode.BehindNumber r) Q tt h) tt

message : (p : Role) (m : Mark) (x : Result MessageFed TextFault) (r : Reader_data) (Q : Reader_data → Type 0) → LandsOr (λ k. Unit {0}) x (λ f. IfOk (in_message p m (Ok f) r) Q)
    → IfOk (in_message p m x r) Q
message p m (Ok f) r Q h = h
message p m (Err e) r Q h = tt

labelled : (p : Role) (m : Mark) (word : List ℕ) (at : ℕ) (r : Reader_data)
    → IfOk (in_message p m (feed_label_number (place_of word r.labels) word at r.labels) r) (λ d. (d.labels ≡ names_with r.labels (word ∷ [])) × Opened d.mode false)
labelled p m word at r =
    let Q : Reader_data → Type 0 = λ d. (d.labels ≡ names_with r.labels (word ∷ [])) × Opened d.mode false in
    message p m (feed_label_number (place_of word r.labels) word at r.labels) r Q
    (labelled_lands (λ k. Unit {0}) (λ f. IfOk (in_message p m (Ok f) r) Q) (place_of word r.labels) word at r.labels refl (λ full. tt) (λ room k e. (refl, refl)))

label : (p : Role) (m : Mark) (t : Sign) (at : ℕ) (r : Reader_data) → IfOk (in_message p m (feed_label wanted.Label (word_text t) at r.labels) r) (Takes true t r)
label p m rec_word at r = labelled p m (codes "rec") at r
label p m end_word at r = labelled p m (codes "end") at r
label p m (plain x) at r = labelled p m x at r
label p m _ at r = tt

sorted : (found : Option Sort) (w : List ℕ) (p : Role) (m : Mark) (l : Label) (at : ℕ) (r : Reader_data) → IfOk (in_message p m (feed_sort_word found l at r.labels) r) (Takes false (plain w) r)
sorted None w p m l at r = tt
sorted (Some s) w p m l at r = (refl, refl)

-- within a table a label stands only where one may
take_closed : (m : Mode) (t : Sign) (at : ℕ) (r : Reader_data) → Opened m false → IfOk (feed_at m t at r) (Takes false t r)
take_closed mode.Table (plain w) at r o = passed (is_keyword (codes "table") (plain w)) wanted.PartOrEnd mode.AtRole at r (Takes false (plain w) r) (refl, refl)
take_closed mode.Table _ at r o = tt
take_closed mode.AtRole (plain w) at r o = played (place_of w r.roles) at r (Takes false (plain w) r) (λ k. (refl, refl))
take_closed mode.AtRole _ at r o = tt
take_closed mode.AtBrace open_brace at r o = (refl, tt)
take_closed mode.AtBrace _ at r o = tt
take_closed mode.AtNumber (number n) at r o = counted n at r (Takes false (number n) r) (refl, refl)
take_closed mode.AtNumber close_brace at r o = passed (is_some_of r.states) (row_wanted r.states) mode.Behind at r (Takes false close_brace r) (refl, refl)
take_closed mode.AtNumber _ at r o = tt
take_closed mode.BehindNumber (plain w) at r o = met (place_of w r.roles) at r (Takes false (plain w) r) (λ k. (refl, refl))
take_closed mode.BehindNumber end_word at r o = (refl, tt)
take_closed mode.BehindNumber _ at r o = tt
take_closed (mode.BehindPeer p) bang at r o = (refl, tt)
take_closed (mode.BehindPeer p) question at r o = (refl, tt)
take_closed (mode.BehindPeer p) _ at r o = tt
take_closed (mode.BehindMark p m) open_brace at r o = (refl, refl)
take_closed (mode.BehindMark p m) _ at r o = tt
take_closed (mode.InMessage p m place.Label) t at r o = absurd (cc o)
take_closed (mode.InMessage p m (place.Paren l)) open_paren at r o = (refl, refl)
take_closed (mode.InMessage p m (place.Paren l)) _ at r o = tt
take_closed (mode.InMessage p m (place.Sort l)) close_paren at r o = (refl, refl)
take_closed (mode.InMessage p m (place.Sort l)) (plain w) at r o = sorted (sort_named w) w p m l at r
take_closed (mode.InMessage p m (place.Sort l)) _ at r o = tt
take_closed (mode.InMessage p m (place.Close l s)) close_paren at r o = (refl, refl)
take_closed (mode.InMessage p m (place.Close l s)) _ at r o = tt
take_closed (mode.AtNext p m l s) (number n) at r o = (refl, refl)
take_closed (mode.AtNext p m l s) _ at r o = tt
take_closed (mode.BehindArm p m) comma at r o = (refl, refl)
take_closed (mode.BehindArm p m) close_brace at r o = (refl, tt)
take_closed (mode.BehindArm p m) _ at r o = tt
take_closed mode.Behind t at r o = tt

take_open : (m : Mode) (t : Sign) (at : ℕ) (r : Reader_data) → Opened m true → IfOk (feed_at m t at r) (Takes true t r)
take_open mode.AtNumber (number n) at r o = counted n at r (Takes true (number n) r) (refl, refl)
take_open mode.AtNumber close_brace at r o = passed (is_some_of r.states) (row_wanted r.states) mode.Behind at r (Takes true close_brace r) (refl, refl)
take_open mode.AtNumber _ at r o = tt
take_open (mode.BehindMark p m) open_brace at r o = (refl, refl)
take_open (mode.BehindMark p m) _ at r o = tt
take_open (mode.InMessage p m place.Label) t at r o = label p m t at r
take_open _ t at r o = absurd (cc o)

take_at : (here : Bool) (m : Mode) (t : Sign) (at : ℕ) (r : Reader_data) → Opened m here → IfOk (feed_at m t at r) (Takes here t r)
take_at true m t at r o = take_open m t at r o
take_at false m t at r o = take_closed m t at r o

take_sign : (here : Bool) (t : Sign) (at : ℕ) (next : Lexeme) (r : Reader_data) → Opened r.mode here → IfOk (feed_sign feeding t at next r) (Takes here t r)
take_sign here (broken k) at next r o = tt
take_sign here t at next r o = take_at here r.mode t at r o

-- ---- along the tokens

-- whether a label may stand behind these tokens
abbrev opened_by : Bool → List Sign → Bool
opened_by here [] = here
opened_by here (t ∷ ts) = opened_by (opens_arm t) ts

opened_on : (xs : List Sign) (here : Bool) (t : Sign) → opened_by here (xs ++ t ∷ []) ≡ opens_arm t
opened_on [] here t = refl
opened_on (x ∷ xs) here t = opened_on xs (opens_arm x) t

labels_on : (xs : List Sign) (here : Bool) (t : Sign) → labels_among here (xs ++ t ∷ []) ≡ labels_among here xs ++ label_there (opened_by here xs) t
labels_on [] here t = append-nil (label_there here t)
labels_on (x ∷ xs) here t =
    ap (λ z. label_there here x ++ z) (labels_on xs (opens_arm x) t) ∙ sym (append_assoc (label_there here x) (labels_among (opens_arm x) xs) (label_there (opened_by (opens_arm x) xs) t))

-- the reader has the labels of these tokens
abbrev pub HasLabels : Names_data → List Sign → Reader_data → Type 0
HasLabels old xs r = r.labels ≡ names_with old.labels (labels_among false xs)

-- and knows whether a label may stand behind them
pub record Follows (old : Names_data) (xs : List Sign) (r : Reader_data) : Type 0 where
  pub labels : HasLabels old xs r
  pub mode : Opened r.mode (opened_by false xs)

pub follows_first : (old : Names_data) → Follows old [] (start_of_table old)
follows_first old = record { labels = refl; mode = refl }

pub follows_on : (old : Names_data) (xs : List Sign) (t : Sign) (at : ℕ) (n : Lexeme) (r d : Reader_data) → Follows old xs r → feed_sign feeding t at n r ≡ Ok d → Follows old (xs ++ t ∷ []) d
follows_on old xs t at n r d k e =
    let here : Bool = opened_by false xs in
    let h = if_ok (feed_sign feeding t at n r) d (Takes here t r) e (take_sign here t at n r k.mode) in
    record {
      labels = h.0 ∙ ap (λ z. names_with z (label_there here t)) k.labels
          ∙ sym (grown_append (labels_among false xs) (label_there here t) old.labels) ∙ ap (λ z. names_with old.labels z) (sym (labels_on xs false t));
      mode = subst (λ (z : Bool). Opened d.mode z) (sym (opened_on xs false t)) h.1;
    }

pub follows_all : (old : Names_data) (xs : List Sign) (these others : List Lexeme) (r d : Reader_data) → Lead feeding r these others d → Follows old xs r → Follows old (xs ++ signs_of these) d
follows_all old xs [] others r d e h = subst (λ (z : List Sign). Follows old z d) (sym (append-nil xs)) (subst (λ (z : Reader_data). Follows old xs z) e h)
follows_all old xs (l ∷ ls) others r d x h =
    subst (λ (z : List Sign). Follows old z d) (append_assoc xs (l.sign ∷ []) (signs_of ls))
    (follows_all old (xs ++ l.sign ∷ []) ls others x.0 d x.2 (follows_on old xs l.sign l.from (next_lexeme_of l (ls ++ others)) r x.0 h x.1))
