-- A loop that reads, hands on and writes, for any writer of texts, between a reader and a writer whose bytes are known: what it has
-- written is the text of what has come. Assumes nothing.
use Rattle.std.specs.Prelude.{ℕ, ◌+◌, ◌<◌, ◌≤◌, Bool, true, false, Option, None, Some, IfSome, List, [], ◌∷◌, ◌++◌, length, take, drop}
use Rattle.std.proofs.Common.{◌≡◌, refl, sym, ap, ◌∙◌, subst, arith, append_assoc, append-nil, take-append-drop, length-append}
use Rattle.std.specs.Io.KnownBytes.{Appends, Consumes, IsAtEnd}
use Rattle.std.proofs.KnownBytes.{Appends-nil, Appends-trans, Consumes-nil, Consumes-trans}
use mathlib.Core.List.{flatten}
use lib.Seq.{take-append_seam}
use Rattle.console.specs.Bytes.{AppendsFront}
use Rattle.portions.specs.Portions.{given_of, left_of, portions_of}
use Rattle.portions.specs.Reads.{Writer, text_by, state_by, turn_of}
use Rattle.portions.proofs.Giving.{given_joined, given_over, left_joined, empty_ends}
use Rattle.portions.proofs.Reading.{text_joined, state_joined, cut_anyhow, written_is_a_beginning}

-- where the loop stands: the bytes `came` were read of a source, and their text was written to a sink
pub record Stands {X : Type 0} (w : Writer X) (x : X) (source source' sink sink' : Option (List ℕ)) (state : X) (left : List ℕ) : Type 0 where
  pub came : List ℕ
  pub goes_on : (given_of false came).ended ≡ false
  pub state_is : state ≡ state_by w x (given_of false came).portions
  pub left_is : left ≡ left_of false came
  pub read : Consumes source source' came
  pub written : Appends sink sink' (text_by w x (given_of false came).portions)

module _ {X : Type 0} (w : Writer X) (x : X) where
  pub starts : (source sink : Option (List ℕ)) → Stands w x source source sink sink x []
  unfolding left_of text_by state_by flatten
  starts source sink = record {
    came = [];
    goes_on = ap (λ g. g.ended) (empty_ends false);
    state_is = rw (empty_ends false);
    left_is = rw (empty_ends false);
    read = Consumes-nil source;
    written = rw (empty_ends false) (Appends-nil sink);
  }

  -- the text of all that is given of what came and of bytes after it is what was written and what a turn with them writes
  turned : (all : Bool) (came bs : List ℕ) (state : X) (left : List ℕ)
      → (given_of false came).ended ≡ false → state ≡ state_by w x (given_of false came).portions → left ≡ left_of false came
      → text_by w x (given_of all (came ++ bs)).portions
      ≡ text_by w x (given_of false came).portions ++ text_by w state (given_of all (left ++ bs)).portions
  turned all came bs state left goes_on state_is left_is =
      let ps = (given_of false came).portions in
      let qs = (given_of all (left_of false came ++ bs)).portions in
      rw (state_is, left_is)
      (ap (λ g. text_by w x g.portions) (given_joined (length came + 1) all came bs (omega arith) goes_on) ∙ text_joined w x ps qs)

  -- bytes that came before others give a beginning of what all give
  begins : (came rest : List ℕ)
      → (more : List ℕ) × (text_by w x (portions_of (came ++ rest)) ≡ text_by w x (given_of false came).portions ++ more)
  unfolding turn_of flatten
  begins came rest =
      let cut = ap (λ s. s.written) (cut_anyhow X w x (came ∷ [])) in
      let whole = append-nil came in
      let h = written_is_a_beginning X w x (came ∷ []) rest in
      (h.0, rw (cut, whole) at h.1)

  -- a turn with the bytes of a read, after which the stream goes on
  pub follows : {r r' r'' o o' o'' : Option (List ℕ)} {state : X} {left : List ℕ} (s : Stands w x r r' o o' state left) (bs : List ℕ)
      → Consumes r' r'' bs → Appends o' o'' (text_by w state (given_of false (left ++ bs)).portions) → (given_of false (left ++ bs)).ended ≡ false
      → (n : Stands w x r r'' o o'' (state_by w state (given_of false (left ++ bs)).portions) (left_of false (left ++ bs)))
      × (length n.came ≡ length s.came + length bs)
  follows {r = r} {r'' = r''} {o = o} {o'' = o''} {state = state} {left = left} s bs read written goes_on =
      let joined = given_joined (length s.came + 1) false s.came bs (omega arith) s.goes_on in
      let ps = (given_of false s.came).portions in
      let qs = (given_of false (left_of false s.came ++ bs)).portions in (
        record {
          came = s.came ++ bs;
          goes_on = ap (λ g. g.ended) joined ∙ (rw s.left_is at goes_on);
          state_is = rw (s.state_is, s.left_is, joined) (sym (state_joined w x ps qs));
          left_is = rw s.left_is (sym (left_joined false s.came bs s.goes_on));
          read = Consumes-trans _ _ _ _ _ s.read read;
          written = subst (Appends o o'') (sym (turned false s.came bs state left s.goes_on s.state_is s.left_is)) (Appends-trans _ _ _ _ _ s.written written);
        },
        length-append s.came bs,
      )

  -- where no bytes come after those of a read, the turn with them writes the rest of the text
  last_turn : {r r' o o' : Option (List ℕ)} {state : X} {left : List ℕ} (s : Stands w x r r' o o' state left) (bs rest : List ℕ) → rest ≡ []
      → text_by w x (portions_of ((s.came ++ bs) ++ rest))
      ≡ text_by w x (given_of false s.came).portions ++ text_by w state (given_of true (left ++ bs)).portions
  last_turn {state = state} {left = left} s bs rest none =
      ap (λ l. text_by w x (portions_of ((s.came ++ bs) ++ l))) none ∙ ap (λ l. text_by w x (portions_of l)) (append-nil (s.came ++ bs))
      ∙ turned true s.came bs state left s.goes_on s.state_is s.left_is

  -- any turn writes more of it
  next_begins : {r r' o o' : Option (List ℕ)} {state : X} {left : List ℕ} (s : Stands w x r r' o o' state left) (all : Bool) (bs rest : List ℕ)
      → (all ≡ true → rest ≡ [])
      → (more : List ℕ) × (text_by w x (portions_of ((s.came ++ bs) ++ rest))
      ≡ (text_by w x (given_of false s.came).portions ++ text_by w state (given_of all (left ++ bs)).portions) ++ more)
  next_begins s true bs rest last = ([], last_turn s bs rest (last refl) ∙ sym (append-nil _))
  next_begins {state = state} {left = left} s false bs rest last =
      let h = begins (s.came ++ bs) rest in
      (h.0, h.1 ∙ ap (λ l. l ++ h.0) (turned false s.came bs state left s.goes_on s.state_is s.left_is))

  -- and the rest of it where the stream ends
  next_is_all : {r r' o o' : Option (List ℕ)} {state : X} {left : List ℕ} (s : Stands w x r r' o o' state left) (all : Bool) (bs rest : List ℕ)
      → (all ≡ true → rest ≡ []) → (given_of all (left ++ bs)).ended ≡ true
      → text_by w x (portions_of ((s.came ++ bs) ++ rest))
      ≡ text_by w x (given_of false s.came).portions ++ text_by w state (given_of all (left ++ bs)).portions
  next_is_all s true bs rest last ended = last_turn s bs rest (last refl)
  next_is_all {state = state} {left = left} s false bs rest last ended =
      let joined = given_joined (length s.came + 1) false s.came bs (omega arith) s.goes_on in
      let over = given_over (length (s.came ++ bs) + 1) true (s.came ++ bs) rest (omega arith) (ap (λ g. g.ended) joined ∙ (rw s.left_is at ended)) in
      ap (λ g. text_by w x g.portions) over ∙ turned false s.came bs state left s.goes_on s.state_is s.left_is

-- the bytes that a source had are those that were read and those that it has left
source_is : (r r' : Option (List ℕ)) (came : List ℕ) (P : List ℕ → Type 0) → Consumes r r' came
    → ((rest : List ℕ) → (IsAtEnd r' → rest ≡ []) → P (came ++ rest)) → IfSome r P
source_is None r' came P read holds = tt
source_is (Some xs) None came P read holds = absurd read
source_is (Some xs) (Some ys) came P read holds = subst P (sym read) (holds ys (λ e. e))

front_of : (o o' : Option (List ℕ)) (p q whole : List ℕ) → Appends o o' p → whole ≡ p ++ q → AppendsFront o o' whole
front_of o o' p q whole written e = (length p, subst (Appends o o') (sym (ap (take (length p)) e ∙ take-append_seam p q)) written)

-- what holds of a source's bytes holds of them where they are few
pub where_few : (r : Option (List ℕ)) (P : List ℕ → Type 0) (n : ℕ) → IfSome r P → IfSome r (λ input. length input < n → P input)
where_few None P n holds = tt
where_few (Some xs) P n holds = λ _. holds

module _ {X : Type 0} (w : Writer X) (x : X) where
  -- where n bytes came, the source had no fewer
  pub not_few : {r r' o o' : Option (List ℕ)} {state : X} {left : List ℕ} (s : Stands w x r r' o o' state left) (n : ℕ) (P : List ℕ → Type 0)
      → n ≤ length s.came → IfSome r (λ input. length input < n → P input)
  not_few {r = r} {r' = r'} s n P many =
      source_is r r' s.came _ s.read (λ rest _ few. absurd (omega (arith, length-append s.came rest, many, few)))

  -- what was written before a read is a beginning of the whole input's text
  pub begun : {r r' o o' : Option (List ℕ)} {state : X} {left : List ℕ} → Stands w x r r' o o' state left
      → IfSome r (λ input. AppendsFront o o' (text_by w x (portions_of input)))
  begun {r = r} {r' = r'} {o = o} {o' = o'} s =
      source_is r r' s.came _ s.read (λ rest _. let h = begins w x s.came rest in front_of o o' _ h.0 _ s.written h.1)

  -- and so it is where a write of a turn took a beginning of its text
  pub begun_more : {r r' o o' : Option (List ℕ)} {state : X} {left : List ℕ} (s : Stands w x r r' o o' state left) (all : Bool) (bs : List ℕ) (r'' o'' : Option (List ℕ))
      → Consumes r' r'' bs → (all ≡ true → IsAtEnd r'') → AppendsFront o' o'' (text_by w state (given_of all (left ++ bs)).portions)
      → IfSome r (λ input. AppendsFront o o'' (text_by w x (portions_of input)))
  begun_more {r = r} {o = o} {state = state} {left = left} s all bs r'' o'' read last part =
      let text = text_by w state (given_of all (left ++ bs)).portions in
      let before = text_by w x (given_of false s.came).portions in
      let n = part.0 in
      source_is r r'' (s.came ++ bs) _ (Consumes-trans _ _ _ _ _ s.read read) (λ rest end.
      let h = next_begins w x s all bs rest (λ e. end (last e)) in
      let cut : (before ++ text) ++ h.0 ≡ (before ++ take n text) ++ (drop n text ++ h.0) =
      ap (λ l. (before ++ l) ++ h.0) (sym (take-append-drop n text)) ∙ simp append_assoc in
      front_of o o'' (before ++ take n text) (drop n text ++ h.0) _ (Appends-trans _ _ _ _ _ s.written part.1) (h.1 ∙ cut))

  -- where the stream has ended, the whole input's text is written
  pub whole : {r r' o o' : Option (List ℕ)} {state : X} {left : List ℕ} (s : Stands w x r r' o o' state left) (all : Bool) (bs : List ℕ) (r'' o'' : Option (List ℕ))
      → Consumes r' r'' bs → (all ≡ true → IsAtEnd r'') → Appends o' o'' (text_by w state (given_of all (left ++ bs)).portions)
      → (given_of all (left ++ bs)).ended ≡ true
      → IfSome r (λ input. Appends o o'' (text_by w x (portions_of input)))
  whole {r = r} {o = o} s all bs r'' o'' read last written ended =
      source_is r r'' (s.came ++ bs) _ (Consumes-trans _ _ _ _ _ s.read read) (λ rest end.
      subst (Appends o o'') (sym (next_is_all w x s all bs rest (λ e. end (last e)) ended)) (Appends-trans _ _ _ _ _ s.written written))
