-- The words of an answer.
use Rattle.std.specs.Prelude.{None, Option, Some, Err, Ok, Result}
use Prim.Native.Nat.{ℕ}
use mathlib.Core.Path.{◌≡◌, refl, ◌∙◌}
use mathlib.Core.List.{List, [], ◌∷◌}
use lib.ListN.{length, get_or}
use Rattle.refusal.specs.declared.Refusal.{Refusal}
use Rattle.refusal.specs.Refusal.{refusal_number, refusal_details}
use Rattle.rows.specs.Rows.{pasted}
use Rattle.place.specs.declared.SectionNames.{SectionNames}
use Rattle.place.specs.EndNames.{side_number, ends_words}
use Rattle.place.specs.Values.{maybe_ends}
use Rattle.call_list.specs.declared.Reply.{Reply}
use Rattle.call_list.specs.Reply.{Replied, NoCallReplied, reply_length, reply_words}

pub done_reply : (c : Result (ℕ × Option SectionNames) Refusal) (n : ℕ) (es : Option SectionNames) → c ≡ Ok (n, es) → Replied c (record { what = 0; number = n; detail = 0; second = 0; ends = es })
done_reply c n es q = record { words = λ l. rw q }

pub refused_reply : (c : Result (ℕ × Option SectionNames) Refusal) (x : Refusal) (w d s : ℕ) → c ≡ Err x → w ≡ refusal_number x → d ≡ get_or (refusal_details x) 0 0 → s ≡ get_or (refusal_details x) 1 0
    → Replied c (record { what = w; number = 0; detail = d; second = s; ends = None })
refused_reply c x w d s q a b e = record { words = λ l. rw (q, a, b, e) }

pub no_call_reply : (c : Result (Unit {0}) Refusal) → c ≡ (Ok tt) → NoCallReplied c (record { what = 255; number = 0; detail = 0; second = 0; ends = None })
no_call_reply c q = record { words = rw q }

-- a refusal is answered as that of a call is
pub no_call_refused : (c : Result (Unit {0}) Refusal) (x : Refusal) (r : Reply) → c ≡ Err x → Replied (Err x) r → NoCallReplied c r
no_call_refused c x r q w = record { words = rw q (w.words (record { words = []; coords = []; fold = []; tally = record { created = 0; modified = 0; deleted = 0 }; set = [] })) }

-- ---- the words themselves

module _ (r : Reply) where
  pub unnamed_words : r.ends ≡ None → r.what ∷ r.number ∷ r.detail ∷ r.second ∷ 0 ∷ 0 ∷ 0 ∷ 0 ∷ 0 ∷ [] ≡ reply_words r
  unnamed_words q = rw q

  pub named_words : (x : SectionNames) (a b : ℕ) → r.ends ≡ Some x → a ≡ side_number x.left.side → b ≡ side_number x.right.side
      → r.what ∷ r.number ∷ r.detail ∷ r.second ∷ 1 ∷ x.left.lane ∷ a ∷ x.right.lane ∷ b ∷ [] ≡ reply_words r
  named_words x a b q l t = rw (q, l, t)

  pub reply_length_lem : length (reply_words r) ≡ reply_length
  reply_length_lem = go r.ends
    where
      go : (es : Option SectionNames) → length (r.what ∷ r.number ∷ r.detail ∷ r.second ∷ ends_words (maybe_ends es)) ≡ reply_length
      go None = refl
      go (Some x) = refl

  pub put_words : (t t' row : List ℕ) (at : ℕ) → row ≡ reply_words r → t' ≡ pasted t at row (length row) → t' ≡ pasted t at (reply_words r) reply_length
  put_words t t' row at q p = p ∙ rw (q, reply_length_lem)
