-- How a call of the port of one thread ends, over what its parts hold.
use Rattle.std.proofs.Common.{◌≡◌, ◌↔◌, ℕ, ◌+◌, ◌*◌, ◌/◌, ◌^◌, ◌<◌, ◌≤◌, Bool, true, false, List, [], ◌∷◌, ◌++◌, length, map, take, drop, refl, sym, ap, ◌∙◌, subst, inl, arith, length-append, add-zero, append-nil}
use Rattle.std.proofs.Math.ListN.{replicate}
use Rattle.std.specs.Prelude.{Result, Ok, Err, IsErrOf, IsTrue, Contains, MatchResult}
use Rattle.sector_extent.specs.Calls.{PlannedCalls}
use Rattle.sector_extent.specs.Rows.{rows_for}
use Rattle.flat_image.specs.declared.act.Act.{Act}
use Rattle.flat_image.specs.declared.act.Act.TheVariants.{Read, Write, Zero, Flush, Fault}
use Rattle.flat_image.specs.declared.act.Asked.TheVariants.{Nothing}
use Rattle.flat_image.specs.declared.port_fault.PortFault.{PortFault}
use Rattle.flat_image.specs.declared.port_fault.PortFault.TheVariants.{Worn, Full, Memory, Failed}
use Rattle.flat_image.specs.Sectors.{sector_count, put_at}
use Rattle.flat_image.specs.Entries.{entry}
use Rattle.flat_image.specs.History.{History, reply, rows_taken, sectors_taken, used_sectors, HasRoom, IsOver, IsWithin}
use Rattle.flat_image.specs.Base.{fresh}
use Rattle.flat_image.specs.Ports.{PortState, IsWorn, ChargesPort, Notes, NotesLast, Reads, ReadFails, Makes, ChangeFails, Flushes, FlushFails, HasRoomFor, IsOverFor}
use Rattle.flat_image.specs.PlainPorts.{IsPlain, counted, AsPlanned, NoteFails}
use Rattle.flat_image.specs.PlainParts.{PlainView, port_in, IsPlainView, Answers}
use Rattle.flat_image.proofs.PlainLaws.{plain-read, plain-flush, plain-fault, plain-write, plain-zero, plain-reply}

-- the parts after a call that changed no sector
abbrev pub noted_view : PlainView → PlannedCalls → History → ℕ → PlainView
noted_view v plan seen faults = record v { plan = plan; seen = seen; faults = faults }

-- a port with these entries and faults
abbrev at_state : PlainView → History → ℕ → PortState
at_state v seen faults = record { home = []; tells = true; base = fresh v.sectors []; first = 0; number = 0; seen = seen; faults = faults }

-- nothing was noted, by the port alone
alone_none : (v : PlainView) → (acts : List Act) × (v.seen ≡ v.seen ++ map (entry 0) acts)
alone_none v = ([], sym (append-nil v.seen))

-- nothing, and one act, was noted
notes_none : (v : PlainView) → Notes (port_in v) (port_in v) []
notes_none v = record
    { more = []; is = ap (λ l. at_state v l v.faults) (sym (append-nil v.seen)); own = refl; later = omega arith; limit = λ le. le }

notes_one : (v : PlainView) (act : Act) (faults : ℕ) → length v.seen < 2 ^ 62 → v.faults ≤ faults
    → Notes (port_in v) (at_state v (v.seen ++ entry 0 act ∷ []) faults) (act ∷ [])
notes_one v act faults below later = record
    { more = entry 0 act ∷ []; is = refl; own = refl; later = later; limit = λ le. omega (arith, length-append v.seen (entry 0 act ∷ [])) }

notes_last : (v : PlainView) (noted asked : Act) (faults : ℕ) → length v.seen < 2 ^ 62 → v.faults ≤ faults
    → HasRoomFor (fresh v.sectors []) v.seen asked
    → NotesLast (port_in v) (at_state v (v.seen ++ entry 0 noted ∷ []) faults) noted asked
notes_last v noted asked faults below later room = record {
  notes = notes_one v noted faults below later;
  before = [];
  seen = ap (λ l. l ++ entry 0 noted ∷ []) (sym (append-nil v.seen));
  room = subst (λ (l : History). HasRoomFor (fresh v.sectors []) l asked) (sym (append-nil v.seen)) room;
}

-- no call comes after the last entry
not_worn : {T : Type 0} (v : PlainView) (result : Result T PortFault) → length v.seen < 2 ^ 62 → IsWorn (port_in v) → IsErrOf result Worn
not_worn v result below worn = absurd (omega (arith, worn))

-- the plan and the answer
planned_ok : {T : Type 0} (plan : PlannedCalls) (fails : Bool) (x : T) → fails ≡ false → (IsTrue fails ↔ Contains plan.failing plan.calls)
    → AsPlanned plan (Ok x)
planned_ok plan fails x spared named = record { named = λ e. absurd (cc e); spared = λ there. absurd (let both : fails ≡ true = named.1 there in cc) }

planned_failed : {T : Type 0} (plan : PlannedCalls) (fails : Bool) → fails ≡ true → (IsTrue fails ↔ Contains plan.failing plan.calls)
    → AsPlanned {T = T} plan (Err Failed)
planned_failed plan fails is named = record { named = λ e. named.0 is; spared = tt }

planned_memory : {T : Type 0} (plan : PlannedCalls) → AsPlanned {T = T} plan (Err Memory)
planned_memory plan = record { named = λ e. absurd (cc e); spared = tt }

planned_worn : {T : Type 0} (plan : PlannedCalls) → AsPlanned {T = T} plan (Err Worn)
planned_worn plan = record { named = λ e. absurd (cc e); spared = tt }

planned_full : {T : Type 0} (plan : PlannedCalls) (rows sectors : ℕ) → AsPlanned {T = T} plan (Err (Full rows sectors))
planned_full plan rows sectors = record { named = λ e. absurd (cc e); spared = tt }

-- facts at what a call left are facts at what its clauses say
pub moved : (P : PlannedCalls → History → ℕ → Type 0) {plan plan' : PlannedCalls} {seen seen' : History} {faults faults' : ℕ}
    → plan' ≡ plan → seen' ≡ seen → faults' ≡ faults → P plan seen faults → P plan' seen' faults'
moved P {plan} {plan'} {seen} {seen'} {faults} {faults'} p s f h =
    subst (λ x. P x seen' faults') (sym p) (subst (λ x. P plan x faults') (sym s) (subst (λ x. P plan seen x) (sym f) h))

-- the room of the parts is the room of the entries
room_for : (v : PlainView) (act : Act) → IsPlainView v → HasRoom (v.rows + rows_taken act) (v.filled + sectors_taken act)
    → HasRoomFor (fresh v.sectors []) v.seen act
room_for v act p room = record {
  rows_fit = subst (λ k. k + rows_taken act ≤ 2 ^ 22) p.rows_are room.rows_fit;
  sectors_fit = subst (λ k. k + sectors_taken act ≤ 2 ^ 30) p.filled_are room.sectors_fit;
}

over_for : (v : PlainView) (act : Act) → IsPlainView v → IsOver (v.rows + rows_taken act) (v.filled + sectors_taken act)
    → IsOverFor (fresh v.sectors []) v.seen act
over_for v act p over =
    subst (λ k. IsOver (k + rows_taken act) (used_sectors (fresh v.sectors []) v.seen + sectors_taken act)) p.rows_are
    (subst (λ k. IsOver (v.rows + rows_taken act) (k + sectors_taken act)) p.filled_are over)

is_worn : (v : PlainView) → IsPlainView v → 2 ^ 62 ≤ length v.seen → IsWorn (port_in v)
is_worn v plain full = omega (arith, plain.limit)

rises : (n : ℕ) → n < n + 1
rises n = omega arith

open_still : (v : PlainView) → length v.seen < 2 ^ 62 → ¬ IsWorn (port_in v)
open_still v below worn = omega (arith, worn, below)

-- the count of faults is as it was, or it is one more and the call failed
calm_still : {T : Type 0} (old new : PortState) (result : Result T PortFault) → new.faults ≡ old.faults → (IsErrOf result Failed → ⊥) → ChargesPort old new result
calm_still old new result same other = record { later = omega arith; failed = λ is. absurd (other is); only = λ rose. absurd (omega (arith, rose, same)) }

risen : {T : Type 0} (old new : PortState) → old.faults < new.faults → ChargesPort {T = T} old new (Err Failed)
risen old new rose = record { later = omega arith; failed = λ is. rose; only = λ more. refl }

-- all entries were made before the call
module _ {T : Type 0} (v : PlainView) (plan : PlannedCalls) (plain : IsPlainView v) (is : plan ≡ counted v.plan) where
  refused : (fault : PortFault) (Done : Type 0) (Fails : PortState → PortFault → Type 0) → Fails (port_in v) fault → (IsErrOf {T = T} (Err fault) Failed → ⊥) → AsPlanned {T = T} v.plan (Err fault)
      → (IsWorn (port_in v) → IsErrOf {T = T} (Err fault) Worn)
      → Answers {T = T} v (noted_view v plan v.seen v.faults) (Err fault) Done (Fails (port_in (noted_view v plan v.seen v.faults)))
  refused fault Done Fails fails other planned worn =
      moved (λ p s f. Answers {T = T} v (noted_view v p s f) (Err fault) Done (Fails (port_in (noted_view v p s f)))) is refl refl
      (record { plain = plain; counts = record { sectors = refl; alone = alone_none v; plan = refl; planned = planned }; answer = fails; cause = calm_still {T = T} (port_in v) (port_in v) (Err fault) refl other; worn = worn })

  pub read-worn : (at count : ℕ) (Done : Type 0) → 2 ^ 62 ≤ length v.seen
      → Answers {T = T} v (noted_view v plan v.seen v.faults) (Err Worn) Done (ReadFails (port_in v) (port_in (noted_view v plan v.seen v.faults)) at count)
  read-worn at count Done full =
      refused Worn Done (λ new. ReadFails (port_in v) new at count) (is_worn v plain full, inl (notes_none v)) (λ e. cc) (planned_worn v.plan) (λ worn. refl)

  pub change-worn : (act : Act) (Done : Type 0) → 2 ^ 62 ≤ length v.seen
      → Answers {T = T} v (noted_view v plan v.seen v.faults) (Err Worn) Done (ChangeFails (port_in v) (port_in (noted_view v plan v.seen v.faults)) act)
  change-worn act Done full =
      refused Worn Done (λ new. ChangeFails (port_in v) new act) (is_worn v plain full, notes_none v) (λ e. cc) (planned_worn v.plan) (λ worn. refl)

  pub flush-worn : (Done : Type 0) → 2 ^ 62 ≤ length v.seen
      → Answers {T = T} v (noted_view v plan v.seen v.faults) (Err Worn) Done (FlushFails true (port_in v) (port_in (noted_view v plan v.seen v.faults)))
  flush-worn Done full =
      refused Worn Done (FlushFails true (port_in v)) (is_worn v plain full, notes_none v) (λ e. cc) (planned_worn v.plan) (λ worn. refl)

  pub change-full : (act : Act) (fault : PortFault) (Done : Type 0) → length v.seen < 2 ^ 62
      → (fault ≡ Full v.rows v.filled) × IsOver (v.rows + rows_taken act) (v.filled + sectors_taken act)
      → Answers {T = T} v (noted_view v plan v.seen v.faults) (Err fault) Done (ChangeFails (port_in v) (port_in (noted_view v plan v.seen v.faults)) act)
  change-full act fault Done below over =
      refused fault Done (λ new. ChangeFails (port_in v) new act)
      (subst (λ f. ChangeFails (port_in v) (port_in v) act f) (sym over.0) (open_still v below, over_for v act plain over.1, notes_none v, plain.rows_are, plain.filled_are))
      (λ e. let full = over.0 in cc)
      (subst (λ f. AsPlanned {T = T} v.plan (Err f)) (sym over.0) (planned_full v.plan v.rows v.filled))
      (not_worn v (Err fault) below)

  pub change-memory : (act : Act) (Done : Type 0) → length v.seen < 2 ^ 62 → HasRoom (v.rows + rows_taken act) (v.filled + sectors_taken act)
      → Answers {T = T} v (noted_view v plan v.seen v.faults) (Err Memory) Done (ChangeFails (port_in v) (port_in (noted_view v plan v.seen v.faults)) act)
  change-memory act Done below room =
      refused Memory Done (λ new. ChangeFails (port_in v) new act) (open_still v below, room_for v act plain room, notes_none v) (λ e. cc) (planned_memory v.plan) (not_worn v (Err Memory) below)

-- the note was refused
module _ {T : Type 0} (v : PlainView) (plan : PlannedCalls) (plain : IsPlainView v) (is : plan ≡ counted v.plan)
    (fails : Bool) (below : length v.seen < 2 ^ 62) (named : IsTrue fails ↔ Contains v.plan.failing v.plan.calls) (seen : History) (faults : ℕ) where
  note_refused : (fault : PortFault) (Done : Type 0) (Fails : PortState → PortFault → Type 0)
      → Fails (port_in v) Memory
      → Fails (at_state v (v.seen ++ entry 0 (Fault Nothing) ∷ []) (v.faults + 1)) Failed
      → NoteFails fails v.seen seen v.faults faults fault
      → Answers {T = T} v (noted_view v plan seen faults) (Err fault) Done (Fails (port_in (noted_view v plan seen faults)))
  note_refused Memory Done Fails memory failed h =
      moved (λ p s f. Answers {T = T} v (noted_view v p s f) (Err Memory) Done (Fails (port_in (noted_view v p s f)))) is h.0 h.1
      (record { plain = plain; counts = record { sectors = refl; alone = alone_none v; plan = refl; planned = planned_memory v.plan }; answer = memory; cause = calm_still {T = T} (port_in v) (port_in v) (Err Memory) refl (λ e. cc); worn = not_worn v (Err Memory) below })
  note_refused Failed Done Fails memory failed h =
      moved (λ p s f. Answers {T = T} v (noted_view v p s f) (Err Failed) Done (Fails (port_in (noted_view v p s f)))) is h.1 h.2
      (record {
        plain = plain-fault v.sectors v.bytes v.seen v.rows v.filled plain below;
        counts = record { sectors = refl; alone = (Fault Nothing ∷ [], refl); plan = refl; planned = planned_failed v.plan fails h.0 named };
        answer = failed;
        cause = risen {T = T} (port_in v) (at_state v (v.seen ++ entry 0 (Fault Nothing) ∷ []) (v.faults + 1)) (rises v.faults);
        worn = not_worn v (Err Failed) below;
      })
  note_refused (Full rows sectors) Done Fails memory failed h = absurd h
  note_refused Worn Done Fails memory failed h = absurd h

  pub read-refused : (at count : ℕ) (fault : PortFault) (Done : Type 0) → NoteFails fails v.seen seen v.faults faults fault
      → Answers {T = T} v (noted_view v plan seen faults) (Err fault) Done (ReadFails (port_in v) (port_in (noted_view v plan seen faults)) at count)
  read-refused at count fault Done h =
      note_refused fault Done (λ new. ReadFails (port_in v) new at count) (open_still v below, inl (notes_none v))
      (rises v.faults, inl (notes_one v (Fault Nothing) (v.faults + 1) below (omega arith))) h

  pub change-refused : (act : Act) (fault : PortFault) (Done : Type 0) → HasRoom (v.rows + rows_taken act) (v.filled + sectors_taken act)
      → NoteFails fails v.seen seen v.faults faults fault
      → Answers {T = T} v (noted_view v plan seen faults) (Err fault) Done (ChangeFails (port_in v) (port_in (noted_view v plan seen faults)) act)
  change-refused act fault Done room h =
      note_refused fault Done (λ new. ChangeFails (port_in v) new act) (open_still v below, room_for v act plain room, notes_none v)
      (rises v.faults, notes_last v (Fault Nothing) act (v.faults + 1) below (omega arith) (room_for v act plain room)) h

  pub flush-refused : (fault : PortFault) (Done : Type 0) → NoteFails fails v.seen seen v.faults faults fault
      → Answers {T = T} v (noted_view v plan seen faults) (Err fault) Done (FlushFails true (port_in v) (port_in (noted_view v plan seen faults)))
  flush-refused fault Done h =
      note_refused fault Done (FlushFails true (port_in v)) (open_still v below, refl, notes_none v)
      (rises v.faults, notes_one v (Fault Nothing) (v.faults + 1) below (omega arith)) h

-- the call succeeded
module _ (v : PlainView) (plan : PlannedCalls) (plain : IsPlainView v) (is : plan ≡ counted v.plan)
    (fails : Bool) (below : length v.seen < 2 ^ 62) (named : IsTrue fails ↔ Contains v.plan.failing v.plan.calls) (seen : History) (faults : ℕ) where
  pub read-done : (at : ℕ) (old out : List ℕ) → IsWithin v.sectors at old
      → (fails ≡ false) × (seen ≡ v.seen ++ entry 0 (Read at (length old / 512)) ∷ []) × (faults ≡ v.faults)
      → length out ≡ length old → out ≡ take (length old) (drop (512 * at) v.bytes)
      → Answers {T = Unit {0}} v (noted_view v plan seen faults) (Ok tt)
      (Reads (port_in v) (port_in (noted_view v plan seen faults)) at (length out / 512) out)
      (ReadFails (port_in v) (port_in (noted_view v plan seen faults)) at (length out / 512))
  read-done at old out within noted same taken =
      subst (λ k. Answers {T = Unit {0}} v (noted_view v plan seen faults) (Ok tt)
      (Reads (port_in v) (port_in (noted_view v plan seen faults)) at (k / 512) out) (ReadFails (port_in v) (port_in (noted_view v plan seen faults)) at (k / 512))) (sym same)
      (moved (λ p s f. Answers {T = Unit {0}} v (noted_view v p s f) (Ok tt)
      (Reads (port_in v) (port_in (noted_view v p s f)) at (length old / 512) out) (ReadFails (port_in v) (port_in (noted_view v p s f)) at (length old / 512))) is noted.1 noted.2
      (record {
        plain = plain-read v.sectors v.bytes v.seen v.rows v.filled at (length old / 512) plain below;
        counts = record { sectors = refl; alone = ((Read at (length old / 512)) ∷ [], refl); plan = refl; planned = planned_ok v.plan fails tt noted.0 named };
        answer = record {
          notes = notes_one v (Read at (length old / 512)) v.faults below (omega arith);
          before = [];
          behind = [];
          seen = ap (λ l. l ++ entry 0 (Read at (length old / 512)) ∷ []) (sym (append-nil v.seen));
          sectors = λ told. taken ∙ (ap (λ k. take k (drop (512 * at) v.bytes)) within.whole
              ∙ (plain-reply v.sectors v.bytes v.seen v.rows v.filled at (length old / 512) plain
              ∙ ap (λ (l : History). reply (fresh v.sectors []) l at (length old / 512)) (sym (append-nil v.seen))));
        };
        cause = calm_still {T = Unit {0}} _ _ (Ok tt) refl (λ e. cc);
        worn = not_worn v (Ok tt) below;
      }))

  pub flush-done : (fails ≡ false) × (seen ≡ v.seen ++ entry 0 Flush ∷ []) × (faults ≡ v.faults)
      → Answers {T = Unit {0}} v (noted_view v plan seen faults) (Ok tt)
      (Flushes (port_in v) (port_in (noted_view v plan seen faults)))
      (FlushFails true (port_in v) (port_in (noted_view v plan seen faults)))
  flush-done noted =
      moved (λ p s f. Answers {T = Unit {0}} v (noted_view v p s f) (Ok tt)
      (Flushes (port_in v) (port_in (noted_view v p s f))) (FlushFails true (port_in v) (port_in (noted_view v p s f)))) is noted.1 noted.2
      (record {
        plain = plain-flush v.sectors v.bytes v.seen v.rows v.filled plain below;
        counts = record { sectors = refl; alone = ((Flush) ∷ [], refl); plan = refl; planned = planned_ok v.plan fails tt noted.0 named };
        answer = record {
          notes = notes_one v Flush v.faults below (omega arith);
          before = [];
          seen = ap (λ l. l ++ entry 0 Flush ∷ []) (sym (append-nil v.seen));
        };
        cause = calm_still {T = Unit {0}} _ _ (Ok tt) refl (λ e. cc);
        worn = not_worn v (Ok tt) below;
      })

  pub write-done : (at : ℕ) (new bytes : List ℕ) (rows filled : ℕ) → IsWithin v.sectors at new
      → HasRoom (v.rows + rows_for (sector_count new)) (v.filled + sector_count new)
      → (fails ≡ false) × (seen ≡ v.seen ++ entry 0 (Write at new) ∷ []) × (faults ≡ v.faults)
      → bytes ≡ put_at (512 * at) new v.bytes → rows ≡ v.rows + rows_for (sector_count new) → filled ≡ v.filled + sector_count new
      → Answers {T = Unit {0}} v (record v { bytes = bytes; rows = rows; filled = filled; plan = plan; seen = seen; faults = faults }) (Ok tt)
      (Makes (port_in v) (at_state v seen faults) (Write at new))
      (ChangeFails (port_in v) (at_state v seen faults) (Write at new))
  write-done at new bytes rows filled within room noted put more_rows more_filled =
      moved (λ p s f. Answers {T = Unit {0}} v (record v { bytes = bytes; rows = rows; filled = filled; plan = p; seen = s; faults = f }) (Ok tt)
      (Makes (port_in v) (at_state v s f) (Write at new)) (ChangeFails (port_in v) (at_state v s f) (Write at new))) is noted.1 noted.2
      (record {
        plain = subst (λ b. IsPlain v.sectors b (v.seen ++ entry 0 (Write at new) ∷ []) rows filled) (sym put)
            (subst (λ r. IsPlain v.sectors (put_at (512 * at) new v.bytes) (v.seen ++ entry 0 (Write at new) ∷ []) r filled) (sym more_rows)
            (subst (λ n. IsPlain v.sectors (put_at (512 * at) new v.bytes) (v.seen ++ entry 0 (Write at new) ∷ []) (v.rows + rows_for (sector_count new)) n) (sym more_filled)
            (plain-write v.sectors v.bytes v.seen v.rows v.filled at new plain below within room)));
        counts = record { sectors = refl; alone = ((Write at new) ∷ [], refl); plan = refl; planned = planned_ok v.plan fails tt noted.0 named };
        answer = notes_last v (Write at new) (Write at new) v.faults below (omega arith) (room_for v (Write at new) plain room);
        cause = calm_still {T = Unit {0}} _ _ (Ok tt) refl (λ e. cc);
        worn = not_worn v (Ok tt) below;
      })

  pub zero-done : (at count : ℕ) (bytes : List ℕ) (rows : ℕ) → at + count ≤ v.sectors
      → HasRoom (v.rows + rows_for count) (v.filled + 0)
      → (fails ≡ false) × (seen ≡ v.seen ++ entry 0 (Zero at count) ∷ []) × (faults ≡ v.faults)
      → bytes ≡ put_at (512 * at) (replicate (512 * count) 0) v.bytes → rows ≡ v.rows + rows_for count
      → Answers {T = Unit {0}} v (record v { bytes = bytes; rows = rows; plan = plan; seen = seen; faults = faults }) (Ok tt)
      (Makes (port_in v) (at_state v seen faults) (Zero at count))
      (ChangeFails (port_in v) (at_state v seen faults) (Zero at count))
  zero-done at count bytes rows within room noted put more_rows =
      moved (λ p s f. Answers {T = Unit {0}} v (record v { bytes = bytes; rows = rows; plan = p; seen = s; faults = f }) (Ok tt)
      (Makes (port_in v) (at_state v s f) (Zero at count)) (ChangeFails (port_in v) (at_state v s f) (Zero at count))) is noted.1 noted.2
      (record {
        plain = subst (λ b. IsPlain v.sectors b (v.seen ++ entry 0 (Zero at count) ∷ []) rows v.filled) (sym put)
            (subst (λ r. IsPlain v.sectors (put_at (512 * at) (replicate (512 * count) 0) v.bytes) (v.seen ++ entry 0 (Zero at count) ∷ []) r v.filled) (sym more_rows)
            (plain-zero v.sectors v.bytes v.seen v.rows v.filled at count plain below within (subst (λ n. HasRoom (v.rows + rows_for count) n) (add-zero v.filled) room)));
        counts = record { sectors = refl; alone = ((Zero at count) ∷ [], refl); plan = refl; planned = planned_ok v.plan fails tt noted.0 named };
        answer = notes_last v (Zero at count) (Zero at count) v.faults below (omega arith) (room_for v (Zero at count) plain room);
        cause = calm_still {T = Unit {0}} _ _ (Ok tt) refl (λ e. cc);
        worn = not_worn v (Ok tt) below;
      })

  pub flush-ends : (result : Result (Unit {0}) PortFault)
      → MatchResult result (λ _. (fails ≡ false) × (seen ≡ v.seen ++ entry 0 Flush ∷ []) × (faults ≡ v.faults)) (NoteFails fails v.seen seen v.faults faults)
      → Answers {T = Unit {0}} v (noted_view v plan seen faults) result
      (Flushes (port_in v) (port_in (noted_view v plan seen faults)))
      (FlushFails true (port_in v) (port_in (noted_view v plan seen faults)))
  flush-ends (Ok x) h = flush-done h
  flush-ends (Err fault) h = flush-refused v plan plain is fails below named seen faults fault _ h
