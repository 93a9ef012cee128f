-- The kinds of records, in the names of wild's syntax tree. docs/RECORDS.md has what their further words are.
use Rattle.std.specs.Prelude.{ℕ}

abbrev pub NUMBER : ℕ
NUMBER = 1

abbrev pub SYMBOL : ℕ
SYMBOL = 2

abbrev pub LOCATION_COUNTER : ℕ
LOCATION_COUNTER = 3

abbrev pub ADD : ℕ
ADD = 4

abbrev pub SUBTRACT : ℕ
SUBTRACT = 5

abbrev pub MULTIPLY : ℕ
MULTIPLY = 6

abbrev pub DIVIDE : ℕ
DIVIDE = 7

abbrev pub MODULO : ℕ
MODULO = 8

abbrev pub LESS_THAN : ℕ
LESS_THAN = 9

abbrev pub GREATER_THAN : ℕ
GREATER_THAN = 10

abbrev pub LESS_EQUAL : ℕ
LESS_EQUAL = 11

abbrev pub GREATER_EQUAL : ℕ
GREATER_EQUAL = 12

abbrev pub EQUAL : ℕ
EQUAL = 13

abbrev pub NOT_EQUAL : ℕ
NOT_EQUAL = 14

abbrev pub MIN : ℕ
MIN = 15

abbrev pub MAX : ℕ
MAX = 16

abbrev pub BITWISE_AND : ℕ
BITWISE_AND = 17

abbrev pub BITWISE_OR : ℕ
BITWISE_OR = 18

abbrev pub BITWISE_XOR : ℕ
BITWISE_XOR = 19

abbrev pub LEFT_SHIFT : ℕ
LEFT_SHIFT = 20

abbrev pub RIGHT_SHIFT : ℕ
RIGHT_SHIFT = 21

abbrev pub LOGICAL_AND : ℕ
LOGICAL_AND = 22

abbrev pub LOGICAL_OR : ℕ
LOGICAL_OR = 23

abbrev pub LOGICAL_NOT : ℕ
LOGICAL_NOT = 24

abbrev pub BITWISE_NOT : ℕ
BITWISE_NOT = 25

abbrev pub NEGATE : ℕ
NEGATE = 26

abbrev pub ABSOLUTE : ℕ
ABSOLUTE = 27

abbrev pub TERNARY : ℕ
TERNARY = 28

abbrev pub ALIGN : ℕ
ALIGN = 29

abbrev pub SIZEOF : ℕ
SIZEOF = 30

abbrev pub ALIGNOF : ℕ
ALIGNOF = 31

abbrev pub ORIGIN : ℕ
ORIGIN = 32

abbrev pub LENGTH : ℕ
LENGTH = 33

abbrev pub ADDR : ℕ
ADDR = 34

abbrev pub LOADADDR : ℕ
LOADADDR = 35

abbrev pub DEFINED : ℕ
DEFINED = 36

abbrev pub SEGMENT_START : ℕ
SEGMENT_START = 37

abbrev pub SIZEOF_HEADERS : ℕ
SIZEOF_HEADERS = 38

abbrev pub ASSERT : ℕ
ASSERT = 39

abbrev pub ARG : ℕ
ARG = 40

abbrev pub GROUP : ℕ
GROUP = 41

abbrev pub AS_NEEDED : ℕ
AS_NEEDED = 42

abbrev pub IGNORED : ℕ
IGNORED = 43

abbrev pub SECTIONS : ℕ
SECTIONS = 44

abbrev pub ENTRY : ℕ
ENTRY = 45

abbrev pub VERSION : ℕ
VERSION = 46

abbrev pub SYMBOL_DEFINITION : ℕ
SYMBOL_DEFINITION = 47

abbrev pub SET_LOCATION : ℕ
SET_LOCATION = 48

abbrev pub PROVIDE : ℕ
PROVIDE = 49

abbrev pub ASSERT_COMMAND : ℕ
ASSERT_COMMAND = 50

abbrev pub MEMORY : ℕ
MEMORY = 51

abbrev pub MEMORY_REGION : ℕ
MEMORY_REGION = 52

abbrev pub PHDRS : ℕ
PHDRS = 53

abbrev pub PHDR : ℕ
PHDR = 54

abbrev pub OUTPUT_FORMAT : ℕ
OUTPUT_FORMAT = 55

abbrev pub FORMAT : ℕ
FORMAT = 56

abbrev pub ALIGN_CLAUSE : ℕ
ALIGN_CLAUSE = 57

abbrev pub AT_CLAUSE : ℕ
AT_CLAUSE = 58

abbrev pub PHDR_CLAUSE : ℕ
PHDR_CLAUSE = 59

abbrev pub REGION_CLAUSE : ℕ
REGION_CLAUSE = 60

abbrev pub FILL : ℕ
FILL = 61

abbrev pub SECTION_HEAD : ℕ
SECTION_HEAD = 62

abbrev pub SECTION : ℕ
SECTION = 63

abbrev pub PATTERN : ℕ
PATTERN = 64

abbrev pub MATCHER : ℕ
MATCHER = 65

abbrev pub CONSTRUCTORS : ℕ
CONSTRUCTORS = 66

abbrev pub FLAGS : ℕ
FLAGS = 67
