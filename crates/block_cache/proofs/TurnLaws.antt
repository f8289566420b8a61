-- One turn of a shared cache, from what a seat had seen to the act that it notes.
use Rattle.std.proofs.Common.{◌≡◌, ℕ, Bool, false, List, [], ◌∷◌, ◌++◌, Result, Ok, Err, IfOk, sym, ◌∙◌, ap, subst, append-nil}
use Rattle.std.specs.Result.{IsOkAnd}
use Rattle.std.proofs.lemmas.List.{append_cancel_left}
use Rattle.sector_extent.specs.declared.memory.Memory.{Memory}
use Rattle.flat_image.specs.Entries.{entry, calls_by}
use Rattle.flat_image.proofs.Entries.{calls_by-append}
use Rattle.turn_lock.specs.Locks.{Lock, Place, place, IsLater}
use Rattle.block_cache.specs.declared.key.Key.{Key}
use Rattle.block_cache.specs.declared.history.CacheAct.{CacheAct}
use Rattle.block_cache.specs.declared.history.CacheAct.TheVariants.{Look}
use Rattle.block_cache.specs.declared.history.CacheBase.{CacheBase}
use Rattle.block_cache.specs.Blocks.{CacheState, put_in}
use Rattle.block_cache.specs.CacheHistory.{Finds}
use Rattle.block_cache.specs.CacheTurns.{Noted, Looked}

-- what was taken in is the copy that was made
pub copy_in : (old new : CacheState) (key : Key) (bytes : List ℕ) (copy : Result (List ℕ) Memory) → IfOk copy (λ c. c ≡ bytes) → IsOkAnd copy (λ c. new ≡ put_in old key c) → new ≡ put_in old key bytes
copy_in old new key bytes (Ok c) same in_ = in_ ∙ ap (put_in old key) same
copy_in old new key bytes (Err e) same in_ = absurd in_

module _ (cache : Lock CacheBase) (old mid new : Place CacheAct) (later : IsLater old mid) where
  none_between : calls_by old.number later.seen.rest ≡ []
  none_between =
      let own = calls_by old.number old.seen in
      let all : own ++ calls_by old.number later.seen.rest ≡ own = sym (calls_by-append old.number old.seen later.seen.rest) ∙ ap (calls_by old.number) (sym later.seen.is) ∙ later.others in
      append_cancel_left own (calls_by old.number later.seen.rest) [] (all ∙ sym (append-nil own))

  pub noted : (act : CacheAct) → new ≡ place mid.lock mid.number (mid.seen ++ entry mid.number act ∷ []) false → Noted old new act
  noted act is = record {
    between = later.seen.rest;
    others = none_between;
    is = is ∙ (λ i. place (later.lock i) (later.number i) (later.seen.is i ++ entry (later.number i) act ∷ []) false);
  }

  pub looked : (key : Key) (at count : ℕ) (found : Bool) (bytes : List ℕ) → new ≡ place mid.lock mid.number (mid.seen ++ entry mid.number (Look key) ∷ []) false
      → Finds cache.base mid.seen key at count found bytes → Looked cache old new key at count found bytes
  unfolding noted
  looked key at count found bytes is finds = record {
    noted = noted (Look key) is;
    finds = subst (λ seen. Finds cache.base seen key at count found bytes) later.seen.is finds;
  }
