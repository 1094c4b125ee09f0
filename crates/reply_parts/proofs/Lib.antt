mod Nameless
