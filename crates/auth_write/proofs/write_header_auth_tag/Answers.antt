use Rattle.std.proofs.Common.{rules}
use Rattle.wire.proofs.Exits.{exits}
use Rattle.checks.proofs.Writers.{writes_error, writes_fails, writes_28, writes_all}
use Rattle.auth_write.proofs.AuthLaws.{auth_6, auth_checked, auth_ready, auth_stored, auth_length}
use Rattle.auth_write.proofs.write_header_auth_tag.Goals as goal

ruleset laws = (exits, writes_error, writes_fails, writes_28, writes_all, auth_6, auth_ready, rules)

pub returns-in_err-suite : goal.returns-in_err-suite
returns-in_err-suite c = search laws

pub returns-in_err-check_sealed : goal.returns-in_err-check_sealed
returns-in_err-check_sealed c =
    let tested = auth_checked _ _ _ _ c.from_number.ensures _ c.ok_or.ensures.value _ c.in_ok-suite.was _ c.check_sealed.ensures in
    search laws

pub returns-then-out-size : goal.returns-then-out-size
returns-then-out-size c =
    let tested = auth_checked _ _ _ _ c.from_number.ensures _ c.ok_or.ensures.value _ c.in_ok-suite.was _ c.check_sealed.ensures in
    let long = auth_length _ _ _ _ c.from_number.ensures _ c.ok_or.ensures.value _ c.in_ok-suite.was _ c.check_sealed.ensures c.in_ok-check_sealed.was _ c.auth_size-size.ensures in
    search laws

pub put_auth-requires : goal.put_auth-requires
put_auth-requires c = search laws

pub returns : goal.returns
returns c =
    let tested = auth_checked _ _ _ _ c.from_number.ensures _ c.ok_or.ensures.value _ c.in_ok-suite.was _ c.check_sealed.ensures in
    let long = auth_length _ _ _ _ c.from_number.ensures _ c.ok_or.ensures.value _ c.in_ok-suite.was _ c.check_sealed.ensures c.in_ok-check_sealed.was _ c.auth_size-size.ensures in
    let stores = auth_stored _ _ _ _ c.from_number.ensures _ c.ok_or.ensures.value _ c.in_ok-suite.was _ _ c.put_auth.ensures in
    search laws
