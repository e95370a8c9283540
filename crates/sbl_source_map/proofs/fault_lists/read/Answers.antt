use Rattle.std.proofs.Common.{◌≡◌, ◌⊎◌, ℕ, List, length, map, inl, inr}
use Rattle.std.proofs.lemmas.Result.{err_from_is_err_and}
use Rattle.sbl_text.specs.Directives.{start}
use Rattle.sbl_text.specs.Tokens.{PlacedToken, placed_of}
use Rattle.sbl_text.specs.declared.fault.ScriptFault.{ScriptFault}
use Rattle.sbl_text.specs.declared.fault.ScriptFault.TheVariants as fault
use Rattle.sbl_ast.specs.Texts.{script}
use Rattle.sbl_script.specs.Reading.{HasTokens, IsUnread}
use Rattle.sbl_source_map.specs.FaultLists.{IsUnreadText}
use Rattle.sbl_script.proofs.Places.{unread_bytes}
use Rattle.sbl_source_map.proofs.fault_lists.read.Goals as goal

of_tokens : (bytes : List ℕ) (ts : List PlacedToken) (f : ScriptFault) → HasTokens start bytes ts → (f ≡ fault.OutOfMemory) ⊎ IsUnread script ts (length bytes) f
    → (f ≡ fault.OutOfMemory) ⊎ IsUnreadText bytes f
of_tokens bytes ts f tokens (inl m) = inl m
of_tokens bytes ts f tokens (inr u) = inr (inr (ts, tokens, u))

pub returns-in_err-items-clause-fault : goal.returns-in_err-items-clause-fault
returns-in_err-items-clause-fault c =
    let p = err_from_is_err_and c.from_residual-in_err-items.result c.from_residual-in_err-items.ensures.1 in
    let text = c.in_ok-text.ensures.ok in
    let u = unread_bytes c.args.bytes.now c.in_ok-text.text.now _ c.in_ok-found.found.items c.in_err-items.field-0.0 text.0 c.deref.ensures.value text.1 text.2 c.in_ok-found.ensures.placed c.in_err-items.ensures.fault in
    rw (p.1, p.2) (of_tokens c.args.bytes.now (map placed_of c.in_ok-found.found.items) c.in_err-items.field-0.0 u.0 u.1)
