-- The refusals' numbers. Assumes nothing.
use Rattle.std.specs.Prelude.{ℕ}
use Rattle.wire.specs.declared.refusals.Reason.{Reason}
use Rattle.wire.specs.declared.refusals.Reason.TheVariants as reason

abbrev pub number_of : Reason → ℕ
number_of reason.NotAddressable = 1
number_of reason.Shortage = 2
number_of reason.UnknownVersion = 3
number_of reason.OtherVersion = 4
number_of reason.MessageType = 5
number_of reason.UnknownSuite = 6
number_of reason.SuiteOfOtherVersion = 7
number_of reason.CountInEmptyContext = 8
number_of reason.NoCountInContext = 9
number_of reason.KeyNotUtf8 = 10
number_of reason.ValueNotUtf8 = 11
number_of reason.KeySeenBefore = 12
number_of reason.PairsTooLong = 13
number_of reason.ContextLength = 14
number_of reason.TooManyKeys = 15
number_of reason.ProviderIdNotUtf8 = 16
number_of reason.ContentType = 17
number_of reason.ReservedBytes = 18
number_of reason.IvLength = 19
number_of reason.FrameLength = 20
number_of reason.OldEmptyContext = 21
number_of reason.PairTableTooShort = 22
number_of reason.KeyTableTooShort = 23
number_of reason.IdLength = 24
number_of reason.SuiteDataLength = 25
number_of reason.TableOrPlace = 26
number_of reason.CountOrPartTooLong = 27
number_of reason.OutputTooShort = 28
number_of reason.NotFound = 29
number_of reason.TagLength = 30
number_of reason.RequiredTableOrPlace = 31
number_of reason.PastSection = 32
number_of reason.PairInOldForm = 33
number_of reason.SequenceNumber = 34
number_of reason.FinalContentTooLong = 35
number_of reason.NoFrame = 36
number_of reason.RegularContentLength = 37
number_of reason.NoEncryptedDataKey = 38
number_of reason.ForbiddenByPolicy = 39
number_of reason.NoKeyRemains = 40
