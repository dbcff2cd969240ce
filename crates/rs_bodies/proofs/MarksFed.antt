-- A mark that stands directly behind a token, and changes more than the place in the grammar, is a turn of the reader.
use Rattle.std.proofs.Common.{◌≡◌, ◌∙◌, ℕ, ◌+◌, List, ◌∷◌, drop, Ok, false, refl, sym, ap, subst}
use Rattle.rs_text.specs.declared.reading.Stop.{Stop}
use Rattle.rs_text.specs.Lexemes.{Lexeme}
use Rattle.rs_text.specs.Lexing.{front, front_of, length_of_blanks, lexeme_at, next_lexeme}
use Rattle.rs_text.specs.Readings.{Fails, feed_sign}
use Rattle.rs_text.specs.Signs.{Sign, bang, question, comma, open_brace, close_brace}
use Rattle.rs_bodies.specs.declared.dialects.Dialect.{Dialect}
use Rattle.rs_bodies.specs.declared.dialects.Dialect.TheVariants.{Acts}
use Rattle.rs_bodies.specs.declared.dialects.Head.TheVariants as head
use Rattle.rs_bodies.specs.declared.dialects.Mark.{Mark}
use Rattle.rs_bodies.specs.declared.dialects.Mark.TheVariants as mark
use Rattle.rs_bodies.specs.declared.reading.Frame.{Frame}
use Rattle.rs_bodies.specs.declared.reading.Link.{Link}
use Rattle.rs_bodies.specs.declared.reading.Mode.{Mode}
use Rattle.rs_bodies.specs.declared.reading.Mode.TheVariants as mode
use Rattle.rs_model.specs.declared.graph.Role.{Role}
use Rattle.rs_bodies.specs.Data.{Reader_data}
use Rattle.rs_bodies.specs.Drafts.{names_read}
use Rattle.rs_bodies.specs.Feeding.{Fed, behind_body, feed_behind, feed_brace, feed_new_head, feeding, is_read}
use Rattle.rs_bodies.specs.Marks.{byte_of}
use Rattle.rs_bodies.specs.Turns.{Passes, Refuses}
use Rattle.rs_bodies.proofs.MarksPassed.{next_at, not_read, one}

-- no mark is taken
pub none_taken : (d : Dialect) (bytes : List ℕ) (at : ℕ) (r : Reader_data) → Passes (feeding d) bytes at r at r
none_taken d bytes at r = (0, (refl, refl))

-- the mark t stands directly at the offset, and the reader makes x of it
pub record Stands (d : Dialect) (bytes : List ℕ) (at : ℕ) (r : Reader_data) (x : Fed) : Type 0 where
  pub sign : Sign
  pub next : lexeme_at at (front sign 1) ≡ next_lexeme bytes at
  pub unread : is_read r ≡ false
  pub fed : (n : Lexeme) → feed_sign (feeding d) sign at n r ≡ x

pub passes_by : (d : Dialect) (bytes : List ℕ) (at : ℕ) (r q : Reader_data) (x : Fed) → Stands d bytes at r x → x ≡ Ok q → Passes (feeding d) bytes at r (at + 1) q
passes_by d bytes at r q x s e =
    one d bytes at (at + 1) 1 r q refl (record { token = lexeme_at at (front s.sign 1); token_is = s.next; unread = s.unread; fed = s.fed (next_lexeme bytes (at + 1)) ∙ e; until_is = refl })

pub refuses_by : (d : Dialect) (bytes : List ℕ) (at : ℕ) (r left : Reader_data) (x : Fed) (s : Stop) → Stands d bytes at r x → Fails s x → names_read left ≡ names_read r
    → Refuses (feeding d) names_read s bytes at r left
refuses_by d bytes at r left x s k h e = record {
  token = lexeme_at at (front k.sign 1);
  token_is = k.next;
  unread = k.unread;
  fails = subst (λ (z : Fed). Fails s z) (sym (k.fed (next_lexeme bytes (at + 1)))) h;
  names_are = e;
}

stands_in : (d : Dialect) (bytes here : List ℕ) (at : ℕ) (t : Sign) (r : Reader_data) (m : Mode) (x : Fed) → drop at bytes ≡ here → length_of_blanks false here ≡ 0 → front_of here ≡ front t 1 → r.mode ≡ m
    → is_read r ≡ false → ((n : Lexeme) → feed_sign (feeding d) t at n (record r { mode = m }) ≡ x) → Stands d bytes at r x
stands_in d bytes here at t r m x e z f same unread fed = record {
  sign = t;
  next = sym (next_at bytes here at e z ∙ ap (lexeme_at at) f);
  unread = unread;
  fed = λ n. subst (λ (k : Mode). feed_sign (feeding d) t at n (record r { mode = k }) ≡ x) (sym same) (fed n);
}

unread_in : (r : Reader_data) (m : Mode) → r.mode ≡ m → behind_body m ≡ false → is_read r ≡ false
unread_in r m same h = subst (λ (z : Mode). is_read (record r { mode = z }) ≡ false) (sym same) (not_read r.frames m h)

act_in : (bytes rest : List ℕ) (at : ℕ) (from : Link) (p : Role) (m : Mark) (r : Reader_data) → drop at bytes ≡ byte_of m ∷ rest → r.mode ≡ mode.AtTurn from p
    → Stands Acts bytes at r (feed_new_head Acts from (head.Act p m) at (record r { mode = mode.AtTurn from p }))
act_in bytes rest at from p mark.Puts r e same =
    stands_in Acts bytes (33 ∷ rest) at bang r (mode.AtTurn from p) (feed_new_head Acts from (head.Act p mark.Puts) at (record r { mode = mode.AtTurn from p })) e refl refl same
    (unread_in r (mode.AtTurn from p) same refl) (λ n. refl)
act_in bytes rest at from p mark.Takes r e same =
    stands_in Acts bytes (63 ∷ rest) at question r (mode.AtTurn from p) (feed_new_head Acts from (head.Act p mark.Takes) at (record r { mode = mode.AtTurn from p })) e refl refl same
    (unread_in r (mode.AtTurn from p) same refl) (λ n. refl)

-- the mark of an act
pub act_stands : (d : Dialect) (bytes rest : List ℕ) (at : ℕ) (from : Link) (p : Role) (m : Mark) (r : Reader_data) → d ≡ Acts → drop at bytes ≡ byte_of m ∷ rest → r.mode ≡ mode.AtTurn from p
    → Stands d bytes at r (feed_new_head Acts from (head.Act p m) at r)
act_stands d bytes rest at from p m r acts e same =
    subst (λ (z : Dialect). Stands z bytes at r (feed_new_head Acts from (head.Act p m) at r)) (sym acts)
    (subst (λ (z : Mode). Stands Acts bytes at r (feed_new_head Acts from (head.Act p m) at (record r { mode = z }))) (sym same) (act_in bytes rest at from p m r e same))

-- the brace that opens the arms of an act
pub brace_stands : (d : Dialect) (bytes rest : List ℕ) (at act : ℕ) (r : Reader_data) → drop at bytes ≡ 123 ∷ rest → r.mode ≡ mode.AtArms act → Stands d bytes at r (feed_brace act at r)
brace_stands d bytes rest at act r e same =
    subst (λ (z : Mode). Stands d bytes at r (feed_brace act at (record r { mode = z }))) (sym same)
    (stands_in d bytes (123 ∷ rest) at open_brace r (mode.AtArms act) (feed_brace act at (record r { mode = mode.AtArms act })) e refl refl same (unread_in r (mode.AtArms act) same refl) (λ n. refl))

open_frames : (r : Reader_data) (f : Frame) (fs : List Frame) → r.frames ≡ f ∷ fs → is_read r ≡ false
open_frames r f fs e = rw e refl

-- behind a body
pub comma_stands : (d : Dialect) (bytes rest : List ℕ) (at : ℕ) (f : Frame) (fs : List Frame) (r : Reader_data) → drop at bytes ≡ 44 ∷ rest → r.mode ≡ mode.Next → r.frames ≡ f ∷ fs
    → Stands d bytes at r (feed_behind comma at r)
comma_stands d bytes rest at f fs r e same open_ =
    subst (λ (z : Mode). Stands d bytes at r (feed_behind comma at (record r { mode = z }))) (sym same)
    (stands_in d bytes (44 ∷ rest) at comma r mode.Next (feed_behind comma at (record r { mode = mode.Next })) e refl refl same (open_frames r f fs open_) (λ n. refl))

pub close_stands : (d : Dialect) (bytes rest : List ℕ) (at : ℕ) (f : Frame) (fs : List Frame) (r : Reader_data) → drop at bytes ≡ 125 ∷ rest → r.mode ≡ mode.Next → r.frames ≡ f ∷ fs
    → Stands d bytes at r (feed_behind close_brace at r)
close_stands d bytes rest at f fs r e same open_ =
    subst (λ (z : Mode). Stands d bytes at r (feed_behind close_brace at (record r { mode = z }))) (sym same)
    (stands_in d bytes (125 ∷ rest) at close_brace r mode.Next (feed_behind close_brace at (record r { mode = mode.Next })) e refl refl same (open_frames r f fs open_) (λ n. refl))
