-- What is written of the lines that were taken.
use Rattle.std.proofs.Common.{◌≡◌, ◌<◌, ◌≤◌, ◌++◌, ◌∷◌, [], ℕ, List, length, take, sym, ap, ◌∙◌, inl, inr, arith}
use mathlib.Core.List.{IsPrefix}
use Rattle.std.specs.List.{All, concat, flat_map}
use Rattle.std.proofs.lemmas.List.{append_assoc, append-nil, length-append, length-take}
use Rattle.std.proofs.lemmas.List.Elements.{All-append, All-cons, All-nil, All-push}
use Rattle.std.proofs.lemmas.List.Folds.{concat-append}
use Rattle.std.proofs.lemmas.Grind.{flat_map-append}
use Rattle.rtrb.specs.declared.consumer.Consumer.{Consumer}
use Rattle.rtrb.specs.Ring.{received}
use Rattle.sockets.specs.ErrorStreams.{Stream}
use Rattle.log_pipe.specs.declared.log_writer.LogWriter.{LogWriter}
use Rattle.log_pipe.specs.Limits.{max_block}
use Rattle.log_pipe.specs.Writing.{IsBlock, IsDone, IsEmptied, IsWritten, IsWrittenAs, IsWrittenIn, Round, Writes, WritesBoth, blocks_of}

-- nothing is written yet
pub no_block : {A P : Type 0} (ring : Consumer ℕ A P) (stream : Stream) → IsWrittenAs [] ring ring stream stream
no_block ring stream = record {
  taken = sym (append-nil (received ring));
  texts = sym (append-nil stream.texts);
  each = All-nil IsBlock;
  patience = omega arith;
}

-- one block more
pub one_more : {A P : Type 0} (blocks : List (List ℕ)) (block : List ℕ) (first ring next : Consumer ℕ A P) (s t u : Stream)
    → IsWrittenAs blocks first ring s t → received next ≡ received ring ++ block → u.texts ≡ t.texts ++ block ∷ [] → IsBlock block → u.patience ≤ t.patience
    → IsWrittenAs (blocks ++ block ∷ []) first next s u
one_more blocks block first ring next s t u so_far taken text is less = record {
  taken =
      taken ∙ ap (λ r. r ++ block) so_far.taken ∙ append_assoc (received first) (concat blocks) block
      ∙ ap (λ b. received first ++ b) (ap (λ b. concat blocks ++ b) (sym (append-nil block)) ∙ sym (concat-append blocks (block ∷ [])));
  texts = text ∙ ap (λ x. x ++ block ∷ []) so_far.texts ∙ append_assoc s.texts blocks (block ∷ []);
  each = All-push IsBlock blocks block so_far.each is;
  patience = omega (arith, less, so_far.patience);
}

-- the ring and the stream as they were left after a look and a wait
pub as_left : {A P : Type 0} (blocks : List (List ℕ)) (first ring next : Consumer ℕ A P) (s t u : Stream)
    → IsWrittenAs blocks first ring s t → received next ≡ received ring → u.texts ≡ t.texts → u.patience ≤ t.patience
    → IsWrittenAs blocks first next s u
as_left blocks first ring next s t u so_far same text less = record {
  taken = same ∙ so_far.taken;
  texts = text ∙ so_far.texts;
  each = so_far.each;
  patience = omega (arith, less, so_far.patience);
}

-- what is taken from a ring that isn't empty is some bytes, and no more than a block
pub is_block : (count size : ℕ) (slice known left : List ℕ) → (length known ≡ 0 → ⊥) → IsPrefix known (take count slice ++ left)
    → (count < size → length left ≡ 0) → size ≡ max_block → length slice ≡ max_block → IsBlock (take count slice)
is_block count size slice known left some prefix most room full =
    let whole = ap length prefix.1 in
    let parts = length-append known prefix.0 in
    let both = length-append (take count slice) left in
    let taken = length-take count slice in
    grind (arith, some, most, room, full)

ends : (after : LogWriter) (between : Stream) → after.stream.patience ≤ between.patience → IsEmptied after.events between → IsEmptied after.sending after.stream → IsDone after
ends after between less (inl none) (inl no_more) = inl (none, no_more)
ends after between less (inl none) (inr given_up) = inr given_up
ends after between less (inr given_up) emptied = inr (omega (arith, given_up, less))

-- blocks of both rings, the events first
pub both : (before after : LogWriter) (between : Stream)
    → IsWritten before.events after.events before.stream between → IsWritten before.sending after.sending between after.stream → WritesBoth before after
both before after between events sending = record {
  round = record { of_events = events.blocks; of_sending = sending.blocks };
  written = record {
    texts =
        sending.written.texts ∙ ap (λ x. x ++ sending.blocks) events.written.texts ∙ append_assoc before.stream.texts events.blocks sending.blocks
        ∙ ap (λ x. before.stream.texts ++ x) (sym (append-nil (events.blocks ++ sending.blocks)));
    events = events.written.taken ∙ ap (λ x. received before.events ++ concat x) (sym (append-nil events.blocks));
    sending = sending.written.taken ∙ ap (λ x. received before.sending ++ concat x) (sym (append-nil sending.blocks));
    each =
        All-cons (λ round. All IsBlock (blocks_of round)) (record { of_events = events.blocks; of_sending = sending.blocks }) []
        (All-append IsBlock events.blocks sending.blocks events.written.each sending.written.each) (All-nil (λ round. All IsBlock (blocks_of round)));
    patience = omega (arith, events.written.patience, sending.written.patience);
  };
  done = ends after between sending.written.patience events.emptied sending.emptied;
}

-- no round is made yet
pub no_round : (writer : LogWriter) → IsWrittenIn [] writer writer
no_round writer = record {
  texts = sym (append-nil writer.stream.texts);
  events = sym (append-nil (received writer.events));
  sending = sym (append-nil (received writer.sending));
  each = All-nil (λ round. All IsBlock (blocks_of round));
  patience = omega arith;
}

added : (first next last : List ℕ) (f : Round → List (List ℕ)) (xs ys : List Round) → next ≡ first ++ concat (flat_map f xs) → last ≡ next ++ concat (flat_map f ys)
    → last ≡ first ++ concat (flat_map f (xs ++ ys))
added first next last f xs ys so_far more =
    more ∙ ap (λ x. x ++ concat (flat_map f ys)) so_far ∙ append_assoc first (concat (flat_map f xs)) (concat (flat_map f ys))
    ∙ ap (λ x. first ++ x) (sym (concat-append (flat_map f xs) (flat_map f ys)) ∙ ap concat (sym (flat_map-append f xs ys)))

-- rounds follow rounds
pub further : (xs ys : List Round) (first next last : LogWriter) → IsWrittenIn xs first next → IsWrittenIn ys next last → IsWrittenIn (xs ++ ys) first last
further xs ys first next last so_far more = record {
  texts =
      more.texts ∙ ap (λ x. x ++ flat_map blocks_of ys) so_far.texts ∙ append_assoc first.stream.texts (flat_map blocks_of xs) (flat_map blocks_of ys)
      ∙ ap (λ x. first.stream.texts ++ x) (sym (flat_map-append blocks_of xs ys));
  events = added (received first.events) (received next.events) (received last.events) (λ round. round.of_events) xs ys so_far.events more.events;
  sending = added (received first.sending) (received next.sending) (received last.sending) (λ round. round.of_sending) xs ys so_far.sending more.sending;
  each = All-append (λ round. All IsBlock (blocks_of round)) xs ys so_far.each more.each;
  patience = omega (arith, so_far.patience, more.patience);
}

-- one round more
pub one_round_more : (first next last : LogWriter) → Writes first next → WritesBoth next last → Writes first last
one_round_more first next last so_far more = record {
  rounds = so_far.rounds ++ more.round ∷ [];
  written = further so_far.rounds (more.round ∷ []) first next last so_far.written more.written;
}

-- a wait writes nothing
pub waited : (first next : LogWriter) (stream : Stream) → Writes first next → stream.texts ≡ next.stream.texts → stream.patience ≡ next.stream.patience
    → Writes first (record next { stream = stream })
waited first next stream so_far texts patience = record {
  rounds = so_far.rounds;
  written = record {
    texts = texts ∙ so_far.written.texts;
    events = so_far.written.events;
    sending = so_far.written.sending;
    each = so_far.written.each;
    patience = omega (arith, patience, so_far.written.patience);
  };
}
