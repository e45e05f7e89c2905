-- Worked examples of `line_command`: each command, more where a command has cases, and lines that are no command.
-- Worked out by hand from the table of CALLING.md.
use Rattle.std.proofs.Common.{◌≡◌, [], ◌∷◌, ◌++◌, Some, None, true, false, codes, refl}
use Rattle.std.specs.declared.ops.Bound.TheVariants.{Included, Excluded, Unbounded}
use Rattle.std.specs.Str.{chars, is_utf8}
use Rattle.compact_lines.specs.Commands.{line_command, reference_to}
use Rattle.compact_edit.specs.declared.edit.Edit.TheVariants as edits
use Rattle.compact_lines.specs.declared.command.Command.TheVariants as commands

pub line-new : line_command (codes "new a b") ≡ Some (commands.New (reference_to (codes "a b")))
unfolding is_utf8 chars lib.Utf8.encode
line-new = refl

pub line-new-alone : line_command (codes "new") ≡ Some (commands.New (reference_to []))
unfolding is_utf8 chars lib.Utf8.encode
line-new-alone = refl

pub line-static : line_command (codes "static") ≡ Some (commands.Static)
unfolding is_utf8 chars lib.Utf8.encode
line-static = refl

pub line-cap : line_command (codes "cap 40") ≡ Some (commands.WithCapacity 40)
unfolding is_utf8 chars lib.Utf8.encode
line-cap = refl

pub line-clonefrom : line_command (codes "clonefrom x") ≡ Some (commands.CloneFrom (reference_to (codes "x")))
unfolding is_utf8 chars lib.Utf8.encode
line-clonefrom = refl

pub line-pushstr : line_command (codes "pushstr  x ") ≡ Some
    (commands.Edit (edits.PushStr (reference_to (codes " x "))))
unfolding is_utf8 chars lib.Utf8.encode
line-pushstr = refl

pub line-pushstr-alone : line_command (codes "pushstr") ≡ Some (commands.Edit (edits.PushStr (reference_to [])))
unfolding is_utf8 chars lib.Utf8.encode
line-pushstr-alone = refl

pub line-push : line_command (codes "push z") ≡ Some (commands.Edit (edits.Push 122))
unfolding is_utf8 chars lib.Utf8.encode
line-push = refl

-- U+00E9 in UTF-8
pub line-push-two_bytes : line_command (codes "push " ++ 195 ∷ 169 ∷ []) ≡ Some (commands.Edit (edits.Push 233))
unfolding is_utf8 chars lib.Utf8.encode
line-push-two_bytes = refl

pub line-push-space : line_command (codes "push  ") ≡ Some (commands.Edit (edits.Push 32))
unfolding is_utf8 chars lib.Utf8.encode
line-push-space = refl

pub line-pop : line_command (codes "pop") ≡ Some (commands.Edit edits.Pop)
unfolding is_utf8 chars lib.Utf8.encode
line-pop = refl

pub line-insert : line_command (codes "insert 3 z") ≡ Some (commands.Edit (edits.Insert 3 122))
unfolding is_utf8 chars lib.Utf8.encode
line-insert = refl

pub line-insertstr : line_command (codes "insertstr 10 a b")
    ≡ Some (commands.Edit (edits.InsertStr 10 (reference_to (codes "a b"))))
unfolding is_utf8 chars lib.Utf8.encode
line-insertstr = refl

pub line-insertstr-no_text : line_command (codes "insertstr 3")
    ≡ Some (commands.Edit (edits.InsertStr 3 (reference_to [])))
unfolding is_utf8 chars lib.Utf8.encode
line-insertstr-no_text = refl

pub line-remove : line_command (codes "remove 0") ≡ Some (commands.Edit (edits.Remove 0))
unfolding is_utf8 chars lib.Utf8.encode
line-remove = refl

pub line-truncate-zeros : line_command (codes "truncate 007") ≡ Some (commands.Edit (edits.Truncate 7))
unfolding is_utf8 chars lib.Utf8.encode
line-truncate-zeros = refl

pub line-clear : line_command (codes "clear") ≡ Some (commands.Edit edits.Clear)
unfolding is_utf8 chars lib.Utf8.encode
line-clear = refl

pub line-splitoff : line_command (codes "splitoff 5") ≡ Some (commands.Edit (edits.SplitOff 5))
unfolding is_utf8 chars lib.Utf8.encode
line-splitoff = refl

pub line-repeat : line_command (codes "repeat 2") ≡ Some (commands.Edit (edits.Repeat 2))
unfolding is_utf8 chars lib.Utf8.encode
line-repeat = refl

pub line-replace : line_command (codes "replace 1 - xy") ≡ Some
    (commands.Edit (edits.ReplaceRange (Included 1) Unbounded (reference_to (codes "xy"))))
unfolding is_utf8 chars lib.Utf8.encode
line-replace = refl

pub line-replace-no_text : line_command (codes "replace - 4")
    ≡ Some (commands.Edit (edits.ReplaceRange Unbounded (Excluded 4) (reference_to [])))
unfolding is_utf8 chars lib.Utf8.encode
line-replace-no_text = refl

pub line-drain : line_command (codes "drain 2 5") ≡ Some (commands.Edit (edits.Drain (Included 2) (Excluded 5)))
unfolding is_utf8 chars lib.Utf8.encode
line-drain = refl

pub line-retain : line_command (codes "retain 101") ≡ Some (commands.Edit
    (edits.Retain (reference_to (true ∷ false ∷ true ∷ []))))
unfolding is_utf8 chars lib.Utf8.encode
line-retain = refl

pub line-retain-alone : line_command (codes "retain") ≡ Some (commands.Edit (edits.Retain (reference_to [])))
unfolding is_utf8 chars lib.Utf8.encode
line-retain-alone = refl

pub line-lower : line_command (codes "lower") ≡ Some (commands.Edit edits.MakeLower)
unfolding is_utf8 chars lib.Utf8.encode
line-lower = refl

pub line-upper : line_command (codes "upper") ≡ Some (commands.Edit edits.MakeUpper)
unfolding is_utf8 chars lib.Utf8.encode
line-upper = refl

pub line-zeroize : line_command (codes "zeroize") ≡ Some (commands.Edit edits.Zeroize)
unfolding is_utf8 chars lib.Utf8.encode
line-zeroize = refl

pub line-reserve : line_command (codes "reserve 64") ≡ Some (commands.Edit (edits.Reserve 64))
unfolding is_utf8 chars lib.Utf8.encode
line-reserve = refl

pub line-shrinkto-greatest : line_command (codes "shrinkto 18446744073709551615")
    ≡ Some (commands.Edit (edits.ShrinkTo 18446744073709551615))
unfolding is_utf8 chars lib.Utf8.encode
line-shrinkto-greatest = refl

pub line-shrinktofit : line_command (codes "shrinktofit") ≡ Some (commands.Edit edits.ShrinkToFit)
unfolding is_utf8 chars lib.Utf8.encode
line-shrinktofit = refl

pub none-unknown-word : line_command (codes "clears") ≡ None
unfolding is_utf8 chars lib.Utf8.encode
none-unknown-word = refl

pub none-number-missing : line_command (codes "remove") ≡ None
unfolding is_utf8 chars lib.Utf8.encode
none-number-missing = refl

pub none-number-too_large : line_command (codes "cap 18446744073709551616") ≡ None
unfolding is_utf8 chars lib.Utf8.encode
none-number-too_large = refl

pub none-number-with_sign : line_command (codes "cap +5") ≡ None
unfolding is_utf8 chars lib.Utf8.encode
none-number-with_sign = refl

pub none-trailing-space : line_command (codes "clear ") ≡ None
unfolding is_utf8 chars lib.Utf8.encode
none-trailing-space = refl

pub none-bad-flag : line_command (codes "retain 012") ≡ None
unfolding is_utf8 chars lib.Utf8.encode
none-bad-flag = refl

pub none-two-characters : line_command (codes "push ab") ≡ None
unfolding is_utf8 chars lib.Utf8.encode
none-two-characters = refl

pub none-no-end : line_command (codes "drain 3") ≡ None
unfolding is_utf8 chars lib.Utf8.encode
none-no-end = refl

pub none-end-with_more : line_command (codes "drain 2 5 6") ≡ None
unfolding is_utf8 chars lib.Utf8.encode
none-end-with_more = refl

pub none-empty-line : line_command (codes "") ≡ None
unfolding is_utf8 chars lib.Utf8.encode
none-empty-line = refl

-- 255 never occurs in UTF-8
pub none-broken : line_command (codes "pushstr " ++ 255 ∷ []) ≡ None
unfolding is_utf8 chars lib.Utf8.encode
none-broken = refl
