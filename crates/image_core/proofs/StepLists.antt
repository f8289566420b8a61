-- Lists of steps, one step after another.
use Rattle.std.proofs.Common.{◌≡◌, ℕ, ◌+◌, ◌≤◌, List, [], ◌∷◌, ◌++◌, length, take, drop, refl, sym, ap, ◌∙◌, subst, arith, length-append, append_assoc, append-nil}
use Rattle.std.proofs.Math.Seq.{drop-append_seam}
use Rattle.std.proofs.lemmas.List.{take-append-drop}
use Rattle.std.specs.Prelude.{Option, Some, None}
use Rattle.block_disk.specs.declared.disk.Disk.{Ghosts}
use Rattle.flat_image.specs.declared.act.Act.{Act}
use Rattle.flat_image.specs.declared.base.Base.{Base}
use Rattle.flat_image.specs.History.{History, now}
use Rattle.flat_image.proofs.HistoryLaws.{now-append, size-rises, proper-rest}
use Rattle.top_writer.specs.View.{sectors_of}
use Rattle.image_core.specs.declared.image.Image.{Image}
use Rattle.image_core.specs.declared.steps.Numbered.{Numbered}
use Rattle.image_core.specs.declared.steps.Reply.{Reply}
use Rattle.image_core.specs.Seen.{seen, StandsFor, IsImage, more}
use Rattle.image_core.specs.declared.steps.Step.{Step}
use Rattle.image_core.specs.declared.steps.Step.TheVariants.{Plan, Write, Zero, Flush, Grow, Freeze, Copy, Seal, Sweep, Status}
use Rattle.image_core.specs.Steps.{MayStep, noted_with, noted_as, noted_by, AreReplies, added, Makes, GoesBy, MakesNext}

-- a history with what is noted
more-noted : (history : History) (number : ℕ) (o : Option Act) → more history number o ≡ history ++ noted_as number o
more-noted history number None = sym (append-nil history)
more-noted history number (Some act) = refl

short-noted : (number : ℕ) (o : Option Act) → length (noted_as number o) ≤ 1
short-noted number None = omega arith
short-noted number (Some act) = omega arith

-- steps note an entry each at most
length-noted : (list : List Numbered) (made : List Reply) → length (noted_by list made) ≤ length made
length-noted [] made = omega arith
length-noted (s ∷ list) [] = omega arith
length-noted (s ∷ list) (reply ∷ made) =
    omega (arith, length-append (noted_as s.number (noted_with s.step reply)) (noted_by list made), short-noted s.number (noted_with s.step reply), length-noted list made)

-- a step that may be asked for of an image may be of a larger one
pub may-more : (n m : ℕ) (step : Step) → n ≤ m → MayStep n step → MayStep m step
may-more n m (Plan e) more may = omega (arith, may, more)
may-more n m (Write e bytes) more may = (may.0, omega (arith, may.1, more))
may-more n m (Zero e) more may = omega (arith, may, more)
may-more n m Flush more may = tt
may-more n m (Grow sectors) more may = may
may-more n m (Freeze uuid) more may = may
may-more n m (Copy uuid) more may = tt
may-more n m (Seal uuid) more may = tt
may-more n m Sweep more may = tt
may-more n m Status more may = tt

module _ {D : Type 0} (kind : Ghosts D) where
  -- whatever the image stood for, it stands then for the history with what was noted
  pub by-stands : (old new : Image D) (list : List Numbered) (made : List Reply) → GoesBy kind old new list made → (base : Base) (history : History)
      → StandsFor (seen kind old) base history → StandsFor (seen kind new) base (history ++ noted_by list made)
  by-stands old new [] [] goes base history k =
      subst (λ (image : Image D). StandsFor (seen kind image) base (history ++ [])) (sym goes) (subst (StandsFor (seen kind old) base) (sym (append-nil history)) k)
  by-stands old new (s ∷ list) [] goes base history k =
      subst (λ (image : Image D). StandsFor (seen kind image) base (history ++ [])) (sym goes) (subst (StandsFor (seen kind old) base) (sym (append-nil history)) k)
  by-stands old new [] (reply ∷ made) goes base history k = absurd goes
  by-stands old new (s ∷ list) (reply ∷ made) goes base history k =
      let noted : Option Act = noted_with s.step reply in
      let one : History = noted_as s.number noted in
      subst (StandsFor (seen kind new) base) (append_assoc history one (noted_by list made))
      (by-stands goes.0 new list made goes.2 base (history ++ one)
      (subst (StandsFor (seen kind goes.0) base) (more-noted history s.number noted) (goes.1.goes.stands base history s.number k)))

  -- and the replies are those of the history
  pub by-replies : (old new : Image D) (list : List Numbered) (made : List Reply) → GoesBy kind old new list made → (base : Base) (history : History)
      → StandsFor (seen kind old) base history → AreReplies kind.tells base history list made
  by-replies old new [] [] goes base history k = tt
  by-replies old new (s ∷ list) [] goes base history k = tt
  by-replies old new [] (reply ∷ made) goes base history k = absurd goes
  by-replies old new (s ∷ list) (reply ∷ made) goes base history k =
      let noted : Option Act = noted_with s.step reply in (
        goes.1.right base history k,
        by-replies goes.0 new list made goes.2 base (history ++ noted_as s.number noted)
            (subst (StandsFor (seen kind goes.0) base) (more-noted history s.number noted) (goes.1.goes.stands base history s.number k)),
      )

  -- replies to the first steps of a list
  by-front : (old new : Image D) (list rest : List Numbered) (made : List Reply) → GoesBy kind old new list made → GoesBy kind old new (list ++ rest) made
  by-front old new [] rest [] goes = goes
  by-front old new (s ∷ list) rest [] goes = goes
  by-front old new [] rest (reply ∷ made) goes = absurd goes
  by-front old new (s ∷ list) rest (reply ∷ made) goes = (goes.0, goes.1, by-front goes.0 new list rest made goes.2)

  -- one step more
  by-more : (old mid new : Image D) (list : List Numbered) (made : List Reply) (s : Numbered) (reply : Reply) → length made ≡ length list → GoesBy kind old mid list made
      → Makes (seen kind mid) (seen kind new) s reply → GoesBy kind old new (list ++ s ∷ []) (made ++ reply ∷ [])
  by-more old mid new [] [] s reply same goes makes = (new, subst (λ (image : Image D). Makes (seen kind image) (seen kind new) s reply) goes makes, refl)
  by-more old mid new [] (other ∷ made) s reply same goes makes = absurd goes
  by-more old mid new (t ∷ list) [] s reply same goes makes = absurd (omega (arith, same))
  by-more old mid new (t ∷ list) (other ∷ made) s reply same goes makes =
      (goes.0, goes.1, by-more goes.0 mid new list made s reply (omega (arith, same)) goes.2 makes)

  -- all steps of a list were made, and their replies stand behind the old ones
  pub record Went (old new : Image D) (list : List Numbered) (before after : List Reply) : Type 0 where
    pub made : List Reply
    pub behind : after ≡ before ++ made
    pub all : length made ≡ length list
    pub goes : GoesBy kind old new list made

  pub went-none : (old : Image D) (before : List Reply) → Went old old [] before before
  went-none old before = record { made = []; behind = sym (append-nil before); all = refl; goes = refl }

  pub went-more : (old mid new : Image D) (list : List Numbered) (s : Numbered) (before after more_after : List Reply)
      → Went old mid list before after → MakesNext (seen kind mid) (seen kind new) s after more_after → Went old new (list ++ s ∷ []) before more_after
  went-more old mid new list s before after more_after went makes = record {
    made = went.made ++ makes.reply ∷ [];
    behind = makes.behind ∙ (ap (λ (l : List Reply). l ++ makes.reply ∷ []) went.behind ∙ append_assoc before went.made (makes.reply ∷ []));
    all = omega (arith, length-append went.made (makes.reply ∷ []), length-append list (s ∷ []), went.all);
    goes = by-more old mid new list went.made s makes.reply went.all went.goes makes.makes;
  }

  -- the replies of the first steps of a list are those that were added
  module _ (old new : Image D) (i : ℕ) (list : List Numbered) (before after : List Reply) (went : Went old new (take i list) before after) where
    made-is : added before after ≡ went.made
    made-is = ap (λ (l : List Reply). drop (length before) l) went.behind ∙ drop-append_seam before went.made

    pub went-behind : after ≡ before ++ added before after
    went-behind = went.behind ∙ ap (λ (l : List Reply). before ++ l) (sym made-is)

    pub went-length : length (added before after) ≡ length (take i list)
    went-length = ap (length {A = Reply}) made-is ∙ went.all

    pub went-goes : GoesBy kind old new list (added before after)
    went-goes =
        subst (GoesBy kind old new list) (sym made-is)
        (subst (λ (l : List Numbered). GoesBy kind old new l went.made) (take-append-drop i list) (by-front old new (take i list) (drop i list) went.made went.goes))

    pub went-stands : (base : Base) (history : History) → StandsFor (seen kind old) base history → StandsFor (seen kind new) base (history ++ noted_by list (added before after))
    went-stands = by-stands old new list (added before after) went-goes

    pub went-replies : (base : Base) (history : History) → StandsFor (seen kind old) base history → AreReplies kind.tells base history list (added before after)
    went-replies = by-replies old new list (added before after) went-goes

    -- so far the image stands, has no more steps than were made, and no fewer sectors
    pub went-standing : IsImage (seen kind old) → IsImage (seen kind new)
    went-standing (base, history, k) = (base, history ++ noted_by list (added before after), went-stands base history k)

    pub went-steps : IsImage (seen kind old) → new.parts.steps ≤ old.parts.steps + length (take i list)
    went-steps (base, history, k) =
        let noted : History = noted_by list (added before after) in
        omega (arith, (went-stands base history k).steps, k.steps, length-append history noted, length-noted list (added before after), went-length)

    pub went-sectors : IsImage (seen kind old) → sectors_of old.parts.top ≤ sectors_of new.parts.top
    went-sectors (base, history, k) =
        let now_k = went-stands base history k in
        let noted : History = noted_by list (added before after) in
        let rises : (now base history).sectors ≤ (now (now base history) noted).sectors = size-rises (now base history) noted (proper-rest base history noted now_k.proper) in
        omega (arith, rises, k.fits.top.holds.sectors, now_k.fits.top.holds.sectors, ap (λ (b : Base). b.sectors) (now-append base history noted))
