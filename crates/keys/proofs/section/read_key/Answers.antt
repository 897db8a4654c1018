use Rattle.std.proofs.Common.{rules}
use Rattle.wire.proofs.Exits.{exits}
use Rattle.wire.proofs.BufferLaws.{span_place}
use Rattle.keys.proofs.SectionLaws.{key_no_provider, key_no_info, key_no_cipher, key_whole}
use Rattle.keys.proofs.section.read_key.Goals as goal

ruleset laws = (exits, key_no_provider, key_no_info, key_no_cipher, key_whole, rules)

pub returns-in_err-id : goal.returns-in_err-id
returns-in_err-id c = search laws

pub returns-in_err-info : goal.returns-in_err-info
returns-in_err-info c =
    let info = span_place c.at.ensures _ _ c.read_entry.ensures.answer in
    search laws

pub returns-in_err-ciphertext : goal.returns-in_err-ciphertext
returns-in_err-ciphertext c =
    let info = span_place c.at.ensures _ _ c.read_entry.ensures.answer in
    let ciphertext = span_place c.at-2.ensures _ _ c.read_entry-2.ensures.answer in
    search laws

pub returns : goal.returns
returns c =
    let info = span_place c.at.ensures _ _ c.read_entry.ensures.answer in
    let ciphertext = span_place c.at-2.ensures _ _ c.read_entry-2.ensures.answer in
    search laws
